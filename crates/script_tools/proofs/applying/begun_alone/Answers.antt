use Rattle.std.proofs.Common.{ℕ, ap, arith}
use Rattle.std.proofs.lemmas.Result.{err_from_is_err_and}
use Rattle.edit_commands.specs.Session.{SessionValue}
use Rattle.script_tools.proofs.RefusedSources.{first_refused}
use Rattle.script_tools.proofs.applying.begun_alone.Goals as goal

pub returns-in_err-add_source-clause-refused : goal.returns-in_err-add_source-clause-refused
returns-in_err-add_source-clause-refused c =
    let n : ℕ = c.loop-len.len-index in
    let p = err_from_is_err_and c.from_residual.result c.from_residual.ensures.1 in
    rw (p.1, p.2) (first_refused c.loop-len.session c.add_source.new.self c.args.lens.now n c.in_err-add_source.field-0.0 (omega (arith, c.loop-len-test.true))
    (ap (λ (v : SessionValue). v.held.sources) c.loop-len.invariant.is) c.loop-len.invariant.short c.in_err-add_source.ensures)
