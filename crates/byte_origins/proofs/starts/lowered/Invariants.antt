use Rattle.std.proofs.Common.{◌≡◌, ◌≤◌}
use Rattle.image_reader.specs.Accepted.{splices_before}
use Rattle.byte_origins.proofs.starts.lowered.Given as goal

abbrev pub invariant-loop-at : goal.invariant-loop-at
invariant-loop-at g l = (l.left ≡ splices_before (g.H.History.image l.fn.history) l.at) × (l.fn.j ≤ l.at) × (l.at ≤ l.fn.k)

abbrev pub decreases-loop-at : goal.decreases-loop-at
decreases-loop-at g l = l.at
