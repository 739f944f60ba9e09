use Rattle.std.specs.Prelude.{length}
use Rattle.refusal_tests.proofs.sessions.+taken.Given as goal

abbrev pub decreases-taken : goal.decreases-taken
decreases-taken l = length l.changes.now
