use Rattle.std.proofs.Common.{◌≡◌, length}
use Rattle.byte_origins.specs.Stretches.{IsLengthening}
use Rattle.byte_origins.proofs.joining.lengthen.Given as goal

abbrev pub invariant-loop-next : goal.invariant-loop-next
invariant-loop-next l = IsLengthening l.fn.run l.fn.runs.left l.run l.runs.left × (l.runs.image ≡ l.fn.runs.image)

abbrev pub decreases-loop-next : goal.decreases-loop-next
decreases-loop-next l = length l.runs.left
