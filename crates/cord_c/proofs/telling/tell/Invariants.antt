use Rattle.std.proofs.Common.{◌≡◌, ◌-◌, length}
use Rattle.cord_c.proofs.WaitingStretches.{IsTelling}
use Rattle.cord_c.proofs.telling.tell.Given as goal

abbrev pub invariant-told : goal.invariant-told
invariant-told l = IsTelling l.fn.image l.fn.rest.revision l.fn.rest.place l.room l.done l.left l.top × (length l.room ≡ l.all)

abbrev pub decreases-told : goal.decreases-told
decreases-told l = l.all - l.done
