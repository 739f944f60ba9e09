use Rattle.std.proofs.Common.{◌∙◌}
use Rattle.image_reader.specs.Spelling.{row_spelling}
use Rattle.image_reader.specs.Value.{FitsRow}
use Rattle.session_image.specs.Gathering.{output}
use Rattle.session_image.proofs.Sections.{all_more, get_is}
use Rattle.session_image.proofs.Gathering.{put_failed, sends_slice, put_part, put_more}
use Rattle.session_image.proofs.revisions.write_each_row.Goals as goal

pub returns-in_err-put-clause-bytes : goal.returns-in_err-put-clause-bytes
returns-in_err-put-clause-bytes g c =
    put_failed _ _ _ c.from_residual.result c.from_residual.ensures.0 (put_part row_spelling c.args.rows.now c.loop-row.row-index _ (output g.W.Write.contents c.args.writer.now) (output g.W.Write.contents c.loop-row.writer) (output g.W.Write.contents c.put.new.self) (get_is c.args.rows.now c.loop-row.row-index _ c.loop-row-test.true) c.loop-row.invariant.0 (sends_slice _ _ _ _ (c.as_slice.ensures ∙ c.row_record-record.ensures.value) c.in_err-put.ensures.err))

pub loop-row-preserved : goal.loop-row-preserved
loop-row-preserved g c =
    let there = get_is c.args.rows.now c.loop-row.row-index _ c.loop-row-test.true in (
      put_more row_spelling c.args.rows.now c.loop-row.row-index _ (output g.W.Write.contents c.args.writer.now) (output g.W.Write.contents c.loop-row.writer) (output g.W.Write.contents c.put.new.self) there c.loop-row.invariant.0 (rw (c.as_slice.ensures, c.row_record-record.ensures.value) at c.in_ok-put.ensures.ok),
      all_more FitsRow c.args.rows.now c.loop-row.row-index _ there c.loop-row.invariant.1 c.row_record-record.ensures.fits,
    )
