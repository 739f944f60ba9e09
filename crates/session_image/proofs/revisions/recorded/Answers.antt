use Rattle.std.proofs.Common.{arith}
use Rattle.session_image.proofs.RowLists.{few_of}
use Rattle.session_image.proofs.revisions.recorded.Goals as goal

pub overflow_cast-result : goal.overflow_cast-result
overflow_cast-result c = omega (arith, few_of c.args.session.now.revisions c.args.k c.in_ok-rows.field-0.now c.in_ok-rows.ensures, c.count-count.ensures.session.few_rows)
