use Rattle.std.proofs.Common.{◌+◌, ◌≤◌, vec_len, vec_capacity}
use Rattle.byte_origins.specs.Stretches.{left_origins}
use Rattle.byte_origins.proofs.Stretching.{IsGoingBack}
use Rattle.byte_origins.proofs.stretch.next_run.Given as goal

abbrev pub invariant-back : goal.invariant-back
invariant-back l = IsGoingBack l.fn.image (left_origins l.fn.image l.fn.left.items) l.top l.left.items × (vec_len l.left + 1 ≤ vec_capacity l.left)

abbrev pub decreases-back : goal.decreases-back
decreases-back l = l.top.revision
