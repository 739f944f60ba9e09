use Rattle.std.proofs.Common.{◌≡◌, ◌≤◌, take}
use Rattle.node_table.specs.declared.node_table.TheConstants.{FEW_SOURCES}
use Rattle.node_table.proofs.copying.source_lengths.Given as goal

abbrev pub invariant-loop-s : goal.invariant-loop-s
invariant-loop-s g l = record {
  lengths : l.lengths.items ≡ take l.s (g.S.NodeSpace.table l.space).sources;
  room : FEW_SOURCES ≤ l.lengths.capacity;
}
