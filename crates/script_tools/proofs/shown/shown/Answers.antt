use Rattle.std.proofs.Common.{◌≡◌, ℕ, ◌∙◌, ap, arith, length, subst, sym, take}
use Rattle.std.specs.Prelude.{min}
use Rattle.std.proofs.lemmas.List.{take_min}
use Rattle.script_tools.specs.declared.shown.LogTexts.{LogTexts}
use Rattle.script_tools.specs.declared.shown.TheConstants.{BRIEF_LEN}
use Rattle.script_tools.specs.Logged.{shown}
use Rattle.script_tools.proofs.shown.shown.Goals as goal

pub returns-in-Brief : goal.returns-in-Brief
returns-in-Brief c =
    let text = c.args.text.now in
    let least : c.min.result ≡ min BRIEF_LEN (length text) = omega (arith, c.min.ensures) in
    subst (λ (x : LogTexts). take c.min.result text ≡ shown x text) (sym c.in-Brief.is) (ap (λ (n : ℕ). take n text) least ∙ take_min BRIEF_LEN text)
