use Rattle.worked_tests.proofs.WorkedRows.{row_past_the_end, third_byte_uncovered}
use Rattle.worked_tests.proofs.certificates.second_row_is_the_first_that_is_bad.Goals as goal

pub returns-clause-uncovered : goal.returns-clause-uncovered
returns-clause-uncovered c = third_byte_uncovered

pub returns-clause-past_the_end : goal.returns-clause-past_the_end
returns-clause-past_the_end c = row_past_the_end
