use Rattle.std.proofs.Common.{length}
use Rattle.byte_origins.proofs.Weaving.{IsWeaving}
use Rattle.byte_origins.proofs.ropes.text.Given as goal

abbrev pub invariant-loop-part : goal.invariant-loop-part
invariant-loop-part l = IsWeaving l.fn.image l.fn.k l.fn.texts l.texts l.built l.place l.rest

abbrev pub decreases-loop-part : goal.decreases-loop-part
decreases-loop-part l = length l.rest
