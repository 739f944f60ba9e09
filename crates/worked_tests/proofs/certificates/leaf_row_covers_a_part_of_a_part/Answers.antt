use Rattle.worked_tests.proofs.WorkedRows.{part_of_a_part_covered}
use Rattle.worked_tests.proofs.certificates.leaf_row_covers_a_part_of_a_part.Goals as goal

pub returns : goal.returns
returns c = part_of_a_part_covered
