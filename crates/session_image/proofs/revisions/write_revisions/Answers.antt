use Rattle.std.proofs.Common.{◌∙◌, sym, map}
use Rattle.std.proofs.lemmas.List.{length-map}
use Rattle.image_reader.specs.Spelling.{revision_spelling}
use Rattle.session_image.specs.Gathering.{output}
use Rattle.session_image.specs.Written.{recorded_revision}
use Rattle.session_image.proofs.Gathering.{put_failed, sends_slice, put_part, put_more}
use Rattle.session_image.proofs.RowLists.{edits_fit_more}
use Rattle.session_image.proofs.revisions.write_revisions.Goals.{in-Some+in_ok-put, in_default}
use Rattle.session_image.proofs.revisions.write_revisions.Goals as goal
use Rattle.edit_commands.proofs.RevisionLists.{there_is}

pub returns-in_err-put-clause-bytes : goal.returns-in_err-put-clause-bytes
returns-in_err-put-clause-bytes g c =
    put_failed _ _ _ c.from_residual.result c.from_residual.ensures.0 (put_part revision_spelling (map recorded_revision c.args.session.now.revisions) c.loop-k.k c.in-Some.revision (output g.W.Write.contents c.args.writer.now) (output g.W.Write.contents c.loop-k.writer) (output g.W.Write.contents c.put.new.self) (sym c.recorded.ensures ∙ c.in-Some.is) c.loop-k.invariant.0 (sends_slice _ _ _ _ (c.as_slice.ensures ∙ c.revision_record-record.ensures.value) c.in_err-put.ensures.err))

pub loop-k-preserved : goal.loop-k-preserved
loop-k-preserved g c =
    let revisions = c.args.session.now.revisions in
    elim c.match-recorded.branch [
      | in-Some+in_ok-put w ↦
          let found = sym c.recorded.ensures ∙ w.in-Some.is in
          rw w.writer-is (
            put_more revision_spelling (map recorded_revision revisions) c.loop-k.k w.in-Some.revision (output g.W.Write.contents c.args.writer.now) (output g.W.Write.contents c.loop-k.writer) (output g.W.Write.contents w.put.new.self) found c.loop-k.invariant.0 (rw (w.as_slice.ensures, w.revision_record-record.ensures.value) at w.in_ok-put.ensures.ok),
            edits_fit_more revisions c.loop-k.k w.in-Some.revision found c.loop-k.invariant.1 w.revision_record-record.ensures.fits,
          )
      | in_default w ↦
          let r = there_is (map recorded_revision revisions) c.loop-k.k (rw length-map (rw c.count-k-end.ensures.value at c.loop-k-test.true)) in
          absurd (w.in_default.not-Some r.0 (c.recorded.ensures ∙ r.1))
    ]
