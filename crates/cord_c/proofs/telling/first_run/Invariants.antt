use Rattle.cord_c.proofs.WaitingStretches.{IsGoingOn}
use Rattle.cord_c.proofs.telling.first_run.Given as goal

abbrev pub invariant-back : goal.invariant-back
invariant-back l = IsGoingOn l.fn.image l.fn.x l.fn.room l.fn.from l.fn.left l.room l.top l.at

abbrev pub decreases-back : goal.decreases-back
decreases-back l = l.top.revision
