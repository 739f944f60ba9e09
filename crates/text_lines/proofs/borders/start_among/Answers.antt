use Rattle.std.proofs.Common.{◌≡◌, ◌+◌, ◌-◌, length, inl, inr, refl, ap, sym, subst, ◌∙◌, arith}
use Rattle.std.proofs.lemmas.Bool.{false_from_ne_true}
use Rattle.text_lines.specs.Lines.{HasBreak}
use Rattle.text_lines.proofs.HeldLaws.{held_inside, start_told}
use Rattle.text_lines.proofs.LineLaws.{less_one}
use Rattle.text_lines.proofs.borders.start_among.Goals as goal

pub returns-in-Some-clause-is : goal.returns-in-Some-clause-is
returns-in-Some-clause-is c t held =
    let near = c.up_to-near.result.now in
    let same = c.up_to-near.ensures in
    let last = c.in-Some.ensures.0 in
    let inside = held_inside t c.args.held.now c.args.place held (inl (omega (arith, ap length same, last.high))) in
    c.saturating_sub.ensures
    ∙ start_told t near c.args.held.now c.args.place (c.in-Some.at + 1) held inside same (omega (arith, last.high)) (λ j from lt. false_from_ne_true _ (λ yes. last.after j from lt yes)) (λ _. rw (less_one c.in-Some.at) c.in-Some.ensures.1) (λ none. absurd (omega (arith, none)))

pub returns-in-Some-clause-told : goal.returns-in-Some-clause-told
returns-in-Some-clause-told c = (λ _. inl (subst HasBreak c.up_to-near.ensures (c.in-Some.at, c.in-Some.ensures.0.high, c.in-Some.ensures.1)), λ _. refl)

pub returns-in-None-clause-is : goal.returns-in-None-clause-is
returns-in-None-clause-is c t held =
    let near = c.up_to-near.result.now in
    let same = c.up_to-near.ensures in
    let inside = held_inside t c.args.held.now c.args.place held (inr (sym (ap length same) ∙ c.if-near-place.true)) in
    let all : c.args.place - (length near - 0) ≡ 0 = omega (arith, c.if-near-place.true) in
    sym all ∙ start_told t near c.args.held.now c.args.place 0 held inside same (omega arith) (λ j from lt. false_from_ne_true _ (λ yes. c.in-None.ensures j from lt yes)) (λ some. absurd (omega (arith, some))) (λ _. c.if-near-place.true)

pub returns-in-None-2-clause-told : goal.returns-in-None-2-clause-told
returns-in-None-2-clause-told c = (
  λ some. absurd cc,
  λ tells. elim tells [
    | inl has ↦ let there = subst HasBreak (sym c.up_to-near.ensures) has in absurd (c.in-None.ensures there.0 (omega arith) there.1 there.2)
    | inr all ↦ absurd (c.if-near-place.false (ap length c.up_to-near.ensures ∙ all))
  ],
)
