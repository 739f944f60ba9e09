use Rattle.std.proofs.Common.{◌≡◌, length, take}
use Rattle.session_image.specs.Written.{rows_in, splices_in}
use Rattle.session_image.proofs.revisions.count_all.Given as goal

abbrev pub invariant-loop-k : goal.invariant-loop-k
invariant-loop-k l = (l.splices ≡ length (splices_in (take l.k l.session.revisions))) × (l.rows ≡ length (rows_in (take l.k l.session.revisions)))
