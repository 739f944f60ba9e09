use Rattle.std.proofs.Common.{ℕ, List, [], ◌∷◌, drop, subst, take}
use Rattle.edit_script.specs.Words.{Quoted}
use Rattle.script_tools.specs.Logged.{WritesText, shown_on}
use Rattle.script_tools.proofs.logging.write_span.Goals as goal

pub returns : goal.returns
returns g c =
    let a = g.W.Write.contents c.args.writer.now in
    let b = g.W.Write.contents c.write_text.new.writer in
    let texts = c.args.texts in
    let result = c.write_text.result in
    subst (λ (pool : List ℕ). WritesText a b (shown_on texts (Quoted (take c.args.n (drop c.args.a pool)) ∷ [])) result) c.pool.ensures
    (subst (λ (text : List ℕ). WritesText a b (shown_on texts (Quoted text ∷ [])) result) c.span.ensures.value c.write_text.ensures)
