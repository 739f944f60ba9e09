use Rattle.std.proofs.Common.{◌≡◌, ℕ, List, length, ◌∙◌, ap, arith}
use Rattle.std.proofs.lemmas.List.{length-take-le}
use Rattle.std.proofs.lemmas.Result.{err_from_is_err_and}
use Rattle.screen_editor.proofs.FirstFaults.{only_memory}
use Rattle.screen_editor.proofs.opening.add_sources.Goals as goal

pub returns-in_err-add_source-clause-fault : goal.returns-in_err-add_source-clause-fault
returns-in_err-add_source-clause-fault g c =
    let sizes = (g.R.Sources.reading c.args.sources.now).stated.sizes in
    let before : length c.loop-s.session.held.sources ≡ c.loop-s.s = ap (λ (s : List ℕ). length s) c.loop-s.invariant.added.sources ∙ length-take-le c.loop-s.s sizes (omega (arith, c.loop-s-test.true, c.count-s-end.ensures.value)) in
    let p = err_from_is_err_and c.from_residual.result c.from_residual.ensures.1 in
    rw (p.1, p.2) (only_memory c.loop-s.session c.add_source.new.self c.len.result c.in_err-add_source.field-0.0
    (omega (arith, before, c.loop-s-test.true, c.count-s-end.ensures.value, c.count-s-end.ensures.sizes.count)) c.len.ensures.limit c.in_err-add_source.ensures)
