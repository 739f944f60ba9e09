use Rattle.std.proofs.Common.{ℕ, List, ◌∙◌, ap, subst}
use Rattle.image_reader.specs.Spelling.{source_spelling}
use Rattle.session_image.specs.Gathering.{SendsAndHolds, output}
use Rattle.session_image.proofs.Sections.{get_is}
use Rattle.session_image.proofs.Gathering.{put_failed, sends_slice, put_part, put_more}
use Rattle.session_image.proofs.writing.write_sources.Goals as goal

pub returns-in_err-put : goal.returns-in_err-put
returns-in_err-put g c =
    put_failed _ _ _ c.from_residual.result c.from_residual.ensures.0 (put_part source_spelling c.args.space.now.sources c.loop-s.s _ (output g.W.Write.contents c.args.writer.now) (output g.W.Write.contents c.loop-s.writer) (output g.W.Write.contents c.put.new.self) (get_is c.args.space.now.sources c.loop-s.s 0 (rw c.source_count-s-end.ensures at c.loop-s-test.true)) c.loop-s.invariant (sends_slice _ _ _ _ (c.as_slice.ensures ∙ c.source_record-record.ensures ∙ ap source_spelling c.source_len.ensures.value) c.in_err-put.ensures.err))

pub loop-s-preserved : goal.loop-s-preserved
loop-s-preserved g c =
    put_more source_spelling c.args.space.now.sources c.loop-s.s _ (output g.W.Write.contents c.args.writer.now) (output g.W.Write.contents c.loop-s.writer) (output g.W.Write.contents c.put.new.self) (get_is c.args.space.now.sources c.loop-s.s 0 (rw c.source_count-s-end.ensures at c.loop-s-test.true)) c.loop-s.invariant (subst (λ (v : List ℕ). SendsAndHolds (output g.W.Write.contents c.loop-s.writer) (output g.W.Write.contents c.put.new.self) v) (c.as_slice.ensures ∙ c.source_record-record.ensures ∙ ap source_spelling c.source_len.ensures.value) c.in_ok-put.ensures.ok)
