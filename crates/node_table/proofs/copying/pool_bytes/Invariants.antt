use Rattle.std.proofs.Common.{◌≡◌, ◌-◌, ◌≤◌, length, take}
use Rattle.node_table.proofs.copying.pool_bytes.Given as goal

abbrev pub invariant-loop-bytes : goal.invariant-loop-bytes
invariant-loop-bytes g l = record {
  inside : length l.bytes.items ≤ length (g.S.NodeSpace.table l.space).pool;
  bytes : l.bytes.items ≡ take (length l.bytes.items) (g.S.NodeSpace.table l.space).pool;
}

abbrev pub decreases-loop-bytes : goal.decreases-loop-bytes
decreases-loop-bytes g l = l.len - length l.bytes.items
