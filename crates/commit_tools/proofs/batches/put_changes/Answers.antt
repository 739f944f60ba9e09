use Rattle.std.proofs.Common.{◌≡◌, ℕ, [], length, arith, ap, refl, sym, subst, rules, ◌∙◌}
use Rattle.commit_tools.specs.Found.{text_from}
use Rattle.saved_session.proofs.FurtherSessions.{further_itself}
use Rattle.std.proofs.lemmas.Result.{err_from_is_err_and}
use Rattle.commit_tools.specs.Put.{GoesOnTo}
use Rattle.commit_tools.proofs.PutBatches.{Leads, fails_later, goes_through, leads_on}
use Rattle.commit_tools.proofs.batches.put_changes.Goals as goal

pub returns-in_err-put_batch : goal.returns-in_err-put_batch
returns-in_err-put_batch c =
    let p = err_from_is_err_and c.from_residual.result c.from_residual.ensures.1 in
    rw (p.1, p.2) (fails_later c.args.found.now c.args.file.now c.batch_start-first.result c.loop-left.left c.args.session.now c.loop-left.session c.put_batch.new.session
    c.in_err-put_batch.field-0.0 c.loop-left.invariant.leads c.in_err-put_batch.ensures)

pub loop-left-init : goal.loop-left-init
loop-left-init c =
    let all : c.len-left.result ≡ length c.args.found.now.changes.items = search rules in
    record {
      inside = omega (arith, all);
      goes = record { further = further_itself c.args.session.now; some = c.requires.some; text = λ source e. e ∙ ap (text_from c.args.found.now c.args.file.now) (sym all) };
      leads = ([], (all, refl));
    }

pub loop-left-preserved : goal.loop-left-preserved
loop-left-preserved c = record {
  inside = omega (arith, c.batch_start-first.ensures.some, c.loop-left.invariant.inside);
  goes = goes_through c.loop-left.invariant.goes c.in_ok-put_batch.ensures.goes;
  leads = leads_on c.args.found.now c.args.file.now c.batch_start-first.result c.loop-left.left c.args.session.now c.loop-left.session c.put_batch.new.session c.loop-left.invariant.leads c.in_ok-put_batch.ensures;
}

pub returns : goal.returns
returns c =
    let none : c.loop-left.left ≡ 0 = omega (arith, c.loop-left-test.false) in (
      subst (λ (n : ℕ). GoesOnTo c.args.found.now c.args.file.now n (length c.args.found.now.changes.items) c.args.session.now c.loop-left.session) none c.loop-left.invariant.goes,
      subst (λ (n : ℕ). Leads c.args.found.now c.args.file.now c.args.session.now n c.loop-left.session) none c.loop-left.invariant.leads,
    )
