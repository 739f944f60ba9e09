use Rattle.std.proofs.Common.{◌≤◌}
use Rattle.span_descent.proofs.trail.Trail.find_stop.Given as goal

abbrev pub invariant-loop-i : goal.invariant-loop-i
invariant-loop-i g l = l.i ≤ l.self.count

abbrev pub decreases-loop-i : goal.decreases-loop-i
decreases-loop-i g l = l.i
