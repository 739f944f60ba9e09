use Rattle.std.specs.Prelude.{length}
use Rattle.session_tests.proofs.calls.texts.+taken.Given as goal

abbrev pub decreases-taken : goal.decreases-taken
decreases-taken l = length l.changes.now
