use Rattle.std.proofs.Common.{◌∙◌, ap, length, take, arith}
use Rattle.std.proofs.lemmas.List.{length-append}
use Rattle.session_image.specs.Written.{rows_in, splices_in}
use Rattle.session_image.proofs.RowLists.{found_rows, length-rows, rows_to_next, rows_up_to}
use Rattle.session_image.proofs.SpliceLists.{found_splices, length-splices, splices_to_next, splices_up_to}
use Rattle.session_image.proofs.revisions.count_all.Goals as goal
use Rattle.edit_commands.proofs.RevisionLists.{there_is}

pub overflow_cast-splices : goal.overflow_cast-splices
overflow_cast-splices c =
    let revisions = c.args.session.now.revisions in
    let r = there_is revisions c.loop-k.k (rw c.count-k-end.ensures.value at c.loop-k-test.true) in
    let same = c.splices_at.ensures ∙ found_splices revisions c.loop-k.k r.0 r.1 in
    omega (arith, ap length same, splices_up_to revisions c.loop-k.k r.0 r.1, length-splices revisions, c.count-k-end.ensures.session.few_splices)

pub overflow_add-splices : goal.overflow_add-splices
overflow_add-splices c =
    let revisions = c.args.session.now.revisions in
    let r = there_is revisions c.loop-k.k (rw c.count-k-end.ensures.value at c.loop-k-test.true) in
    let same = c.splices_at.ensures ∙ found_splices revisions c.loop-k.k r.0 r.1 in
    omega (arith, c.loop-k.invariant.0, ap length same, splices_up_to revisions c.loop-k.k r.0 r.1, length-splices revisions, c.count-k-end.ensures.session.few_splices)

pub overflow_cast-rows : goal.overflow_cast-rows
overflow_cast-rows c =
    let revisions = c.args.session.now.revisions in
    let r = there_is revisions c.loop-k.k (rw c.count-k-end.ensures.value at c.loop-k-test.true) in
    let same = c.rows_at.ensures ∙ found_rows revisions c.loop-k.k r.0 r.1 in
    omega (arith, ap length same, rows_up_to revisions c.loop-k.k r.0 r.1, length-rows revisions, c.count-k-end.ensures.session.few_rows)

pub overflow_add-rows : goal.overflow_add-rows
overflow_add-rows c =
    let revisions = c.args.session.now.revisions in
    let r = there_is revisions c.loop-k.k (rw c.count-k-end.ensures.value at c.loop-k-test.true) in
    let same = c.rows_at.ensures ∙ found_rows revisions c.loop-k.k r.0 r.1 in
    omega (arith, c.loop-k.invariant.1, ap length same, rows_up_to revisions c.loop-k.k r.0 r.1, length-rows revisions, c.count-k-end.ensures.session.few_rows)

pub loop-k-preserved : goal.loop-k-preserved
loop-k-preserved c =
    let revisions = c.args.session.now.revisions in
    let r = there_is revisions c.loop-k.k (rw c.count-k-end.ensures.value at c.loop-k-test.true) in
    let splices = c.splices_at.ensures ∙ found_splices revisions c.loop-k.k r.0 r.1 in
    let rows = c.rows_at.ensures ∙ found_rows revisions c.loop-k.k r.0 r.1 in (
      omega (
        arith,
        c.loop-k.invariant.0,
        ap length splices,
        ap length (splices_to_next revisions c.loop-k.k r.0 r.1),
        length-append (splices_in (take c.loop-k.k revisions)) r.0.splices.items,
      ),
      omega (
        arith,
        c.loop-k.invariant.1,
        ap length rows,
        ap length (rows_to_next revisions c.loop-k.k r.0 r.1),
        length-append (rows_in (take c.loop-k.k revisions)) r.0.rows.items,
      ),
    )
