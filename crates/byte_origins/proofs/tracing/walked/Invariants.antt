use Rattle.byte_origins.specs.Stretches.{StandsFor}
use Rattle.byte_origins.proofs.tracing.walked.Given as goal

abbrev pub invariant-back : goal.invariant-back
invariant-back g l = StandsFor (g.H.History.image l.fn.history) l.fn.rest.revision l.fn.rest.place l.top

abbrev pub decreases-back : goal.decreases-back
decreases-back g l = l.top.revision
