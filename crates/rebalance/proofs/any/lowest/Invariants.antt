use Rattle.node_table.specs.Held.{table_of}
use Rattle.rebalance.proofs.PieceWays.{IsLower}
use Rattle.rebalance.proofs.any.lowest.Given as goal

abbrev pub invariant-down : goal.invariant-down
invariant-down g l = IsLower (table_of g.F.LeafFn.meaning l.store) l.fn.node.0 l.fn.start l.fn.len l.below.0 l.place

abbrev pub decreases-down : goal.decreases-down
decreases-down g l = l.below.0
