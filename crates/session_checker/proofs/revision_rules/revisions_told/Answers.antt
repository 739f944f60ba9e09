use Rattle.std.proofs.Common.{◌≡◌, ◌+◌, ◌<◌, length, refl, ap, sym, ◌∙◌, arith, below_more}
use Rattle.std.proofs.lemmas.Result.{err_from_is_err_and}
use Rattle.command_parts.specs.Fields.{splices_of}
use Rattle.image_reader.specs.declared.revision.Revision.{Revision}
use Rattle.image_reader.specs.Accepted.{revision_at, rows_before}
use Rattle.session_checker.specs.RevisionRules.{IsGoodOver, source_fault}
use Rattle.session_checker.proofs.EarlierRevisions.{earlier_ropes, rows_before_more, rows_inside, splices_before_more, splices_inside}
use Rattle.session_checker.proofs.RevisionLooks.{rows_more, rows_within}
use Rattle.session_checker.proofs.RevisionFaults.{revision_reads}
use Rattle.session_checker.proofs.revision_rules.revisions_told.Goals as goal

pub check_revision-requires-clause-same : goal.check_revision-requires-clause-same
check_revision-requires-clause-same g c = c.loop-k.invariant.space ∙ c.requires.same

pub check_revision-requires-clause-earlier : goal.check_revision-requires-clause-earlier
check_revision-requires-clause-earlier g c = earlier_ropes c.args.revisions.now c.loop-k.k (λ d below. (c.loop-k.invariant.good d below).rules.root.0)

pub returns-in_err-check_revision-clause-err : goal.returns-in_err-check_revision-clause-err
returns-in_err-check_revision-clause-err g c =
    let p = err_from_is_err_and c.from_residual.result c.from_residual.ensures.1 in
    let v = c.args.revisions.now in
    let there : c.loop-k.k < length v.revisions = omega (arith, c.count-count.ensures.count, c.loop-k-test.true) in
    rw (p.1, p.2) (λ none. record {
      k = c.loop-k.k;
      there = there;
      earlier = c.loop-k.invariant.good;
      breaks = rw c.loop-k.invariant.reads at (c.in_err-check_revision.ensures.err none);
    })

pub returns-in_err-check_revision-clause-reads : goal.returns-in_err-check_revision-clause-reads
returns-in_err-check_revision-clause-reads g c =
    let p = err_from_is_err_and c.from_residual.result c.from_residual.ensures.1 in
    let v = c.args.revisions.now in
    let there : c.loop-k.k < length v.revisions = omega (arith, c.count-count.ensures.count, c.loop-k-test.true) in
    let old = g.S.Sources.reading c.args.sources.now in
    let mid = g.S.Sources.reading c.loop-k.sources in
    let new = g.S.Sources.reading c.check_revision.new.sources in
    rw (p.1, p.2) (revision_reads old mid new v c.loop-k.k (source_fault c.in_err-check_revision.field-0.0) there c.loop-k.invariant.good c.loop-k.invariant.reads c.in_err-check_revision.ensures.reads)

pub overflow_add-from : goal.overflow_add-from
overflow_add-from g c =
    let v = c.args.revisions.now in
    let there : c.loop-k.k < length v.revisions = omega (arith, c.count-count.ensures.count, c.loop-k-test.true) in
    let at : c.revision-revision.result.rows ≡ (revision_at v c.loop-k.k).rows = ap (λ (r : Revision). r.rows) c.revision-revision.ensures.at in
    omega (arith, at, c.loop-k.invariant.from_is, rows_inside v c.count-count.ensures.image c.loop-k.k there, c.count-count.ensures.image.few_rows)

pub overflow_add-first : goal.overflow_add-first
overflow_add-first g c =
    let v = c.args.revisions.now in
    let there : c.loop-k.k < length v.revisions = omega (arith, c.count-count.ensures.count, c.loop-k-test.true) in
    let at : splices_of c.revision-revision.result.edit ≡ splices_of (revision_at v c.loop-k.k).edit = ap (λ (r : Revision). splices_of r.edit) c.revision-revision.ensures.at in
    omega (arith, at, c.splice_count-first.ensures, c.loop-k.invariant.first_is, splices_inside v c.count-count.ensures.image c.loop-k.k there, c.count-count.ensures.image.few_splices)

pub loop-k-preserved : goal.loop-k-preserved
loop-k-preserved g c =
    let v = c.args.revisions.now in
    let there : c.loop-k.k < length v.revisions = omega (arith, c.count-count.ensures.count, c.loop-k-test.true) in
    let good : IsGoodOver v (g.S.Sources.reading c.args.sources.now).stated c.loop-k.k = rw c.loop-k.invariant.reads at (c.in_ok-check_revision.ensures.ok refl) in
    let from_is = ap (λ (r : Revision). c.loop-k.from + r.rows) c.revision-revision.ensures.at ∙ ap (λ n. n + (revision_at v c.loop-k.k).rows) c.loop-k.invariant.from_is ∙ sym (rows_before_more v c.loop-k.k there) in
    record {
      from_is = from_is;
      first_is = ap (λ n. c.loop-k.first + n) c.splice_count-first.ensures ∙ ap (λ (r : Revision). c.loop-k.first + splices_of r.edit) c.revision-revision.ensures.at ∙ ap (λ n. n + splices_of (revision_at v c.loop-k.k).edit) c.loop-k.invariant.first_is ∙ sym (splices_before_more v c.loop-k.k there);
      good = below_more _ _ c.loop-k.invariant.good good;
      reads = c.in_ok-check_revision.ensures.reads ∙ c.loop-k.invariant.reads;
      looks = omega (arith, c.loop-k.invariant.looks, c.check_revision.ensures.looks, rows_more v c.loop-k.k c.loop-k.from (c.loop-k.from + c.revision-revision.result.rows) there c.loop-k.invariant.from_is from_is);
      space = c.check_revision.ensures.space ∙ c.loop-k.invariant.space;
      same = c.check_revision.ensures.same_reference ∙ c.loop-k.invariant.same;
    }

pub returns-in_err-check_revision-clause-looks : goal.returns-in_err-check_revision-clause-looks
returns-in_err-check_revision-clause-looks g c =
    let v = c.args.revisions.now in
    let there : c.loop-k.k < length v.revisions = omega (arith, c.count-count.ensures.count, c.loop-k-test.true) in
    omega (arith, c.loop-k.invariant.looks, c.check_revision.ensures.looks, rows_more v c.loop-k.k c.loop-k.from (rows_before v (c.loop-k.k + 1)) there c.loop-k.invariant.from_is refl, rows_within v c.count-count.ensures.image (c.loop-k.k + 1) (rows_before v (c.loop-k.k + 1)) refl)

pub returns-clause-looks : goal.returns-clause-looks
returns-clause-looks g c = omega (arith, c.loop-k.invariant.looks, rows_within c.args.revisions.now c.count-count.ensures.image c.loop-k.k c.loop-k.from c.loop-k.invariant.from_is)
