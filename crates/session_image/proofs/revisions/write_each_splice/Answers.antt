use Rattle.std.proofs.Common.{◌∙◌}
use Rattle.image_reader.specs.Spelling.{splice_spelling}
use Rattle.image_reader.specs.Value.{FitsSplice}
use Rattle.session_image.specs.Gathering.{output}
use Rattle.session_image.proofs.Sections.{all_more, get_is}
use Rattle.session_image.proofs.Gathering.{put_failed, sends_slice, put_part, put_more}
use Rattle.session_image.proofs.revisions.write_each_splice.Goals as goal

pub returns-in_err-put-clause-bytes : goal.returns-in_err-put-clause-bytes
returns-in_err-put-clause-bytes g c =
    put_failed _ _ _ c.from_residual.result c.from_residual.ensures.0 (put_part splice_spelling c.args.splices.now c.loop-splice.splice-index _ (output g.W.Write.contents c.args.writer.now) (output g.W.Write.contents c.loop-splice.writer) (output g.W.Write.contents c.put.new.self) (get_is c.args.splices.now c.loop-splice.splice-index _ c.loop-splice-test.true) c.loop-splice.invariant.0 (sends_slice _ _ _ _ (c.as_slice.ensures ∙ c.splice_record-record.ensures.value) c.in_err-put.ensures.err))

pub loop-splice-preserved : goal.loop-splice-preserved
loop-splice-preserved g c =
    let there = get_is c.args.splices.now c.loop-splice.splice-index _ c.loop-splice-test.true in (
      put_more splice_spelling c.args.splices.now c.loop-splice.splice-index _ (output g.W.Write.contents c.args.writer.now) (output g.W.Write.contents c.loop-splice.writer) (output g.W.Write.contents c.put.new.self) there c.loop-splice.invariant.0 (rw (c.as_slice.ensures, c.splice_record-record.ensures.value) at c.in_ok-put.ensures.ok),
      all_more FitsSplice c.args.splices.now c.loop-splice.splice-index _ there c.loop-splice.invariant.1 c.splice_record-record.ensures.fits,
    )
