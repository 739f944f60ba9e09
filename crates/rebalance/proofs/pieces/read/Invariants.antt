use Rattle.std.proofs.Common.{◌≡◌, ◌+◌, ◌<◌, ℕ, length, get_or}
use Rattle.node_table.specs.Held.{table_of}
use Rattle.rebalance.proofs.pieces.read.Given as goal

abbrev pub invariant-loop-k : goal.invariant-loop-k
invariant-loop-k g l =
    (length l.bytes ≡ 31) × ((j : ℕ) → j < l.k → get_or l.bytes j 0 ≡ (table_of g.F.LeafFn.meaning l.store).answer l.leaf.0 (l.start + j))
