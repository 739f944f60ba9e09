use Rattle.std.proofs.Common.{Some}
use Rattle.cord_position.proofs.StepLaws.{IsOnWay}
use Rattle.cord_position.proofs.path.descend.Given as goal

abbrev pub invariant-down : goal.invariant-down
invariant-down g l = IsOnWay (g.S.NodeSpace.table l.space) (Some l.fn.root) l.path l.step l.place

abbrev pub decreases-down : goal.decreases-down
decreases-down g l = l.step.node.0
