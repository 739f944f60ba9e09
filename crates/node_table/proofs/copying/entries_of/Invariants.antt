use Rattle.std.proofs.Common.{map}
use Rattle.node_table.specs.Copies.{CopiesFirst}
use Rattle.node_table.specs.Entries.{record_of}
use Rattle.node_table.specs.Lefts.{KeepLefts}
use Rattle.node_table.proofs.copying.entries_of.Given as goal

abbrev pub invariant-loop-id : goal.invariant-loop-id
invariant-loop-id g l = record {
  copied : CopiesFirst (g.S.NodeSpace.table l.space) (g.S.CodedSpace.coded l.space) l.id (map record_of l.entries.items);
  lefts : KeepLefts l.entries.items;
}
