use Rattle.std.proofs.Common.{◌≡◌, ℕ, ◌+◌, ◌<◌, ◌≤◌, ◌∙◌, Some, ap, arith, length, sym}
use Rattle.std.specs.Prelude.{slice_get}
use Rattle.std.specs.List.{range_with_len}
use Rattle.std.proofs.lemmas.List.FromFn.{length-range_with_len}
use Rattle.command_parts.specs.Fields.{splices_of}
use Rattle.image_reader.specs.declared.revision.Revision.{Revision}
use Rattle.image_reader.specs.Value.{ImageValue}
use Rattle.image_reader.specs.Accepted.{revision_at}
use Rattle.session_checker.proofs.EarlierRevisions.{splices_before_more}
use Rattle.session_image.proofs.Sections.{wrote_all, wrote_more, wrote_part}
use Rattle.script_tools.specs.Logged.{log_of, revision_line}
use Rattle.script_tools.proofs.Pieces.{stopped}
use Rattle.script_tools.proofs.ShownTexts.{range_at}
use Rattle.script_tools.proofs.logging.write_log.Goals as goal

-- the k-th number
at : (n k : ℕ) → k < n → slice_get (range_with_len 0 n) k ≡ Some k
at n k lt = let same : 0 + k ≡ k = omega arith in range_at 0 n k lt ∙ ap (λ (i : ℕ). Some i) same

pub returns-in_err-write_revision : goal.returns-in_err-write_revision
returns-in_err-write_revision g c =
    let v = c.args.image.now in
    let a = g.W.Write.contents c.args.writer.now in
    let b = g.W.Write.contents c.loop-k.writer in
    let d = g.W.Write.contents c.write_revision.new.writer in
    let k = c.loop-k.k in
    let there : k < length v.revisions = omega (arith, c.loop-k-test.true, c.revisions-k-end.ensures.count) in
    stopped a d (log_of c.args.texts v) c.from_residual.result c.from_residual.ensures.0
    (wrote_part (revision_line c.args.texts v) (range_with_len 0 (length v.revisions)) k k a b d (at (length v.revisions) k there) c.loop-k.invariant.1 c.in_err-write_revision.ensures)

pub loop-k-preserved : goal.loop-k-preserved
loop-k-preserved g c =
    let v = c.args.image.now in
    let a = g.W.Write.contents c.args.writer.now in
    let b = g.W.Write.contents c.loop-k.writer in
    let d = g.W.Write.contents c.write_revision.new.writer in
    let k = c.loop-k.k in
    let there : k < length v.revisions = omega (arith, c.loop-k-test.true, c.revisions-k-end.ensures.count) in
    let is = c.revision-revision.ensures.at ∙ ap (λ (w : ImageValue). revision_at w k) c.image-in-loop-k.ensures in (
      ap (λ n. c.loop-k.first + n) c.splice_count-first.ensures ∙ ap (λ (r : Revision). c.loop-k.first + splices_of r.edit) is
          ∙ ap (λ n. n + splices_of (revision_at v k).edit) c.loop-k.invariant.0 ∙ sym (splices_before_more v k there),
      wrote_more (revision_line c.args.texts v) (range_with_len 0 (length v.revisions)) k k a b d (at (length v.revisions) k there) c.loop-k.invariant.1 c.in_ok-write_revision.ensures,
    )

pub returns : goal.returns
returns g c =
    let v = c.args.image.now in
    let a = g.W.Write.contents c.args.writer.now in
    let b = g.W.Write.contents c.loop-k.writer in
    let few : length (range_with_len 0 (length v.revisions)) ≤ c.loop-k.k = omega (arith, c.loop-k-test.false, c.revisions-k-end.ensures.count, length-range_with_len 0 (length v.revisions)) in
    wrote_all (revision_line c.args.texts v) (range_with_len 0 (length v.revisions)) c.loop-k.k a b few c.loop-k.invariant.1
