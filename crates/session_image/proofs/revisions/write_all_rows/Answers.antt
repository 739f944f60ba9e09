use Rattle.std.proofs.Common.{◌∙◌, ap, sym}
use Rattle.std.specs.List.{flat_map}
use Rattle.edit_commands.specs.declared.revision.Revision.{Revision}
use Rattle.image_reader.specs.Spelling.{row_spelling}
use Rattle.session_image.specs.Gathering.{output}
use Rattle.session_image.proofs.Sections.{flat_twice}
use Rattle.session_image.proofs.Gathering.{put_failed, put_succeeded, sends_slice, put_part, put_more, put_all}
use Rattle.session_image.proofs.RowLists.{rows_spelling, found_rows, rows_fit_more}
use Rattle.session_image.proofs.revisions.write_all_rows.Goals as goal
use Rattle.edit_commands.proofs.RevisionLists.{there_is}

pub returns-in_err-write_each_row-clause-bytes : goal.returns-in_err-write_each_row-clause-bytes
returns-in_err-write_each_row-clause-bytes g c =
    let revisions = c.args.session.now.revisions in
    let r = there_is revisions c.loop-k.k (rw c.count-k-end.ensures.value at c.loop-k-test.true) in
    let same = c.rows_at.ensures ∙ found_rows revisions c.loop-k.k r.0 r.1 in
    let part = put_part rows_spelling revisions c.loop-k.k r.0 (output g.W.Write.contents c.args.writer.now) (output g.W.Write.contents c.loop-k.writer) (output g.W.Write.contents c.write_each_row.new.writer) r.1 c.loop-k.invariant.0 (sends_slice _ _ _ _ (ap (flat_map row_spelling) same) c.in_err-write_each_row.ensures.bytes.err) in
    put_failed _ _ _ c.from_residual.result c.from_residual.ensures.0 (sends_slice _ _ _ _ (sym (flat_twice row_spelling (λ (r : Revision). r.rows.items) revisions)) part)

pub loop-k-preserved : goal.loop-k-preserved
loop-k-preserved g c =
    let revisions = c.args.session.now.revisions in
    let r = there_is revisions c.loop-k.k (rw c.count-k-end.ensures.value at c.loop-k-test.true) in
    let same = c.rows_at.ensures ∙ found_rows revisions c.loop-k.k r.0 r.1 in (
      put_more rows_spelling revisions c.loop-k.k r.0 (output g.W.Write.contents c.args.writer.now) (output g.W.Write.contents c.loop-k.writer) (output g.W.Write.contents c.write_each_row.new.writer) r.1 c.loop-k.invariant.0 (rw same at c.in_ok-write_each_row.ensures.bytes.ok),
      rows_fit_more revisions c.loop-k.k r.0 r.1 c.loop-k.invariant.1 (rw same at c.in_ok-write_each_row.ensures.fits),
    )

pub returns-clause-bytes : goal.returns-clause-bytes
returns-clause-bytes g c =
    let revisions = c.args.session.now.revisions in
    let all = put_all rows_spelling revisions c.loop-k.k (output g.W.Write.contents c.args.writer.now) (output g.W.Write.contents c.loop-k.writer) (rw c.count-k-end.ensures.value at c.loop-k-test.false) c.loop-k.invariant.0 in
    rw (flat_twice row_spelling (λ (r : Revision). r.rows.items) revisions) (put_succeeded _ _ _ _ all)
