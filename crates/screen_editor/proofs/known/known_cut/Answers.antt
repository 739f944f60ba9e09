use Rattle.std.proofs.Common.{◌≡◌, Some, sym, ap, ◌∙◌, arith}
use Rattle.std.specs.Prelude.{max, min}
use Rattle.screen_editor.proofs.KnownKeys.{stays_cut, stays_unmarked}
use Rattle.screen_editor.proofs.known.known_cut.Goals as goal

pub returns-in_default : goal.returns-in_default
returns-in_default c = stays_unmarked c.args.workspace.now c.args.known.now c.last-last.ensures.history (λ m is. absurd (c.in_default.not-Some m (c.mark.ensures.value ∙ is)))

pub returns-then-mark-place : goal.returns-then-mark-place
returns-then-mark-place c =
    stays_unmarked c.args.workspace.now c.args.known.now c.last-last.ensures.history (λ m is.
    let same : Some m ≡ Some c.in-Some.mark = sym is ∙ sym c.mark.ensures.value ∙ c.in-Some.is in
    let here : m ≡ c.in-Some.mark = cc in
    omega (arith, here, c.if-mark-place.true, c.place-place.ensures.value))

pub returns : goal.returns
returns c =
    let m = c.in-Some.mark in
    let at = c.place-place.ensures.value in
    stays_cut c.args.workspace.now m c.min-start.result c.max.result c.args.known.now c.known_without.result c.last-last.ensures.history (sym c.mark.ensures.value ∙ c.in-Some.is) (λ same. absurd (omega (arith, same, at, c.if-mark-place.false)))
    (c.min-start.ensures ∙ ap (min m) at) (c.max.ensures ∙ ap (max m) at) (omega (arith, c.min-start.ensures, c.max.ensures, c.in-Some.ensures.inside, c.place-place.ensures.inside)) c.known_without.ensures.told c.known_without.ensures.lines
