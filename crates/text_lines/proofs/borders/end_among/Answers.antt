use Rattle.std.proofs.Common.{◌≡◌, ◌+◌, refl, sym, subst, is_some, ap, arith}
use Rattle.std.proofs.lemmas.Bool.{false_from_ne_true}
use Rattle.text_lines.specs.Lines.{HasBreak}
use Rattle.text_lines.specs.Lines.{line_end}
use Rattle.text_lines.proofs.HeldLaws.{end_told}
use Rattle.text_lines.proofs.LineLaws.{end_inside}
use Rattle.text_lines.proofs.borders.end_among.Goals as goal

pub returns-clause-is : goal.returns-clause-is
returns-clause-is c t held long =
    let start = c.args.start in
    let first = c.in_ok-width.ensures.0 in
    let end : start + c.in_ok-width.width ≡ line_end t start = end_told t c.starting_at-near.result.now c.args.held.now start c.in_ok-width.width held c.starting_at-near.ensures first.high (λ j below. false_from_ne_true _ (λ yes. first.before j (omega arith) below yes)) c.in_ok-width.ensures.1 in
    omega (arith, c.min.ensures, c.saturating_add.ensures, end, end_inside t start (omega (arith, long, c.requires)), long)

pub returns-clause-told : goal.returns-clause-told
returns-clause-told c = (λ _. subst HasBreak c.starting_at-near.ensures (c.in_ok-width.width, c.in_ok-width.ensures.0.high, c.in_ok-width.ensures.1), λ _. refl)

pub returns-in_err-width-clause-told : goal.returns-in_err-width-clause-told
returns-in_err-width-clause-told c = (
  λ some. absurd (let gone = ap is_some c.from_residual.ensures in cc),
  λ has. let there = subst HasBreak (sym c.starting_at-near.ensures) has in absurd (c.in_err-width.ensures there.0 (omega arith) there.1 there.2),
)
