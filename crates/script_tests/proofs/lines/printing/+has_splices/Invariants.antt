use Rattle.std.proofs.Common.{length}
use Rattle.script_tests.proofs.lines.printing.+has_splices.Given as goal

abbrev pub decreases-has_splices : goal.decreases-has_splices
decreases-has_splices l = length l.splices.now
