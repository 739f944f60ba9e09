use Rattle.worked_tests.proofs.WorkedFaults.{one_insert_good}
use Rattle.worked_tests.proofs.sessions.wrong_marks_and_rows_are_the_first_revision_faults.Goals as goal

pub returns-clause-none : goal.returns-clause-none
returns-clause-none c = one_insert_good
