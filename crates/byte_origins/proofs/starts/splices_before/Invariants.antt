use Rattle.std.proofs.Common.{◌≡◌}
use Rattle.image_reader.specs.Accepted.{splices_before}
use Rattle.byte_origins.proofs.starts.splices_before.Given as goal

abbrev pub invariant-loop-r : goal.invariant-loop-r
invariant-loop-r g l = l.first ≡ splices_before (g.H.History.image l.fn.history) l.r
