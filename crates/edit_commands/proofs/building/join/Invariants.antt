use Rattle.std.proofs.Common.{length}
use Rattle.edit_commands.proofs.Joining.{IsJoining}
use Rattle.edit_commands.proofs.building.join.Given as goal

abbrev pub invariant-loop-term : goal.invariant-loop-term
invariant-loop-term l = IsJoining l.fn.store l.fn.terms l.store l.built l.left l.count l.places

abbrev pub decreases-loop-term : goal.decreases-loop-term
decreases-loop-term l = length l.left
