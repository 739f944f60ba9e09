use Rattle.std.proofs.Common.{Some, length}
use Rattle.cord_position.specs.Steps.{IsPath}
use Rattle.cord_position.proofs.path.climb.Given as goal

abbrev pub invariant-up : goal.invariant-up
invariant-up g l = IsPath (g.S.NodeSpace.table l.space) (Some l.root) l.path

abbrev pub decreases-up : goal.decreases-up
decreases-up g l = length l.path.items
