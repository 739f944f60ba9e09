-- Each key as its function carries it out, with the numbers that the function read.
use Rattle.std.proofs.Common.{◌≡◌, ℕ, ◌+◌, ◌-◌, ◌<◌, ◌≤◌, List, [], ◌∷◌, get_or, take, Option, Some, None, Result, Ok, Err, sym, ap, arith, ◌∙◌}
use Rattle.std.specs.Prelude.{slice_get, min, max}
use Rattle.std.specs.Borrow.{Bor}
use Rattle.edit_commands.specs.declared.command.Command.TheVariants.{Insert, Delete, Paste, Back, Balance}
use Rattle.edit_commands.specs.Session.{HoldsHistory, length_at}
use Rattle.screen_editor.specs.declared.cut_span.CutSpan.{CutSpan}
use Rattle.screen_editor.specs.declared.cut_span.TheConstants.{MOST_CUTS}
use Rattle.screen_editor.specs.declared.fault.KeyFault.{KeyFault}
use Rattle.screen_editor.specs.declared.key.Key.TheVariants as Keys
use Rattle.screen_editor.specs.declared.workspace.TheConstants.{LONGEST_TEXT}
use Rattle.screen_editor.specs.Editing.{Editing, IsCutSpan, IsEditing, current_len, last_of}
use Rattle.screen_editor.specs.Taking.{RevisesOrNot, CarriesOut}
use Rattle.screen_editor.proofs.KeyPlans.{plan_refused, plan_taken, plan_takes}
use Rattle.screen_editor.proofs.KeySteps.{balance_plan, cut_lies, cut_plan, erase_at_plan, erase_before_plan, paste_plan, span_cut, typed_plan, undo_plan}

module _ {e new : Editing} {result : Result (Unit {0}) KeyFault} {r p : ℕ} (is : IsEditing e) (h : HoldsHistory e.session) (last : r ≡ last_of e) where
  pub typed_takes : {bytes : Bor (List ℕ)} (b : ℕ) → p ≡ e.place → current_len e < LONGEST_TEXT → bytes.now ≡ b ∷ [] → RevisesOrNot (Insert r p bytes) (Some r) (p + 1) e result new → CarriesOut (Keys.Typed b) e result new
  typed_takes {bytes} b place short byte done = plan_takes (Keys.Typed b) e _ _ _ result new h (typed_plan e b bytes is h short byte) (rw (last, place) at done)

  pub erase_before_takes : p ≡ e.place → 0 < p → RevisesOrNot (Delete r (p - 1) 1) (Some r) (p - 1) e result new → CarriesOut Keys.EraseBefore e result new
  erase_before_takes place some done = plan_takes Keys.EraseBefore e _ _ _ result new h (erase_before_plan e is h (omega (arith, place, some))) (rw (last, place) at done)

  pub erase_at_takes : p ≡ e.place → p < current_len e → RevisesOrNot (Delete r p 1) (Some r) p e result new → CarriesOut Keys.EraseAt e result new
  erase_at_takes place some done = plan_takes Keys.EraseAt e _ _ _ result new h (erase_at_plan e is h (omega (arith, place, some))) (rw (last, place) at done)

  pub balance_takes : p ≡ e.place → RevisesOrNot (Balance r) (Some r) p e result new → CarriesOut Keys.Balance e result new
  balance_takes place done = plan_takes Keys.Balance e _ _ _ result new h (balance_plan e is h) (rw (last, place) at done)

  pub undo_takes : {j : ℕ} {prior : Option ℕ} → Some j ≡ get_or e.priors r None → j < r → prior ≡ get_or e.priors j None → p ≡ min e.place (length_at e.session j) → RevisesOrNot (Back j) prior p e result new → CarriesOut Keys.Undo e result new
  undo_takes {j} back before prior place done =
      plan_takes Keys.Undo e _ _ _ result new h (undo_plan e j is h (ap (λ n. get_or e.priors n None) (sym last) ∙ sym back) (omega (arith, before, last))) (rw (prior, place) at done)

  pub paste_takes : (c : CutSpan) → p ≡ e.place → Some c ≡ slice_get e.cuts 0 → IsCutSpan e.session c → c.len + current_len e ≤ LONGEST_TEXT → RevisesOrNot (Paste r p c.revision c.start c.len) (Some r) (p + c.len) e result new → CarriesOut Keys.Paste e result new
  paste_takes c place first span short done = plan_takes Keys.Paste e _ _ _ result new h (paste_plan e c is h (sym first) span (omega (arith, short))) (rw (last, place) at done)

module _ {e mid : Editing} {r p m start most : ℕ} (is : IsEditing e) (h : HoldsHistory e.session) (last : r ≡ last_of e) (place : p ≡ e.place) (mark : Some m ≡ e.mark) (inside : m ≤ current_len e) (other : m ≡ p → ⊥)
    (low : start ≡ min m p) (high : most ≡ max m p) where
  pub cut_refused : {f : KeyFault} → RevisesOrNot (Delete r start (most - start)) (Some r) start e (Err f) mid → CarriesOut Keys.Cut e (Err f) mid
  cut_refused {f} done = plan_refused Keys.Cut e _ _ _ _ f mid h (cut_plan e m is h (sym mark) inside (λ same. other (same ∙ sym place))) (rw (low, high, last, place) at done)

  pub cut_taken : {new : Editing} → RevisesOrNot (Delete r start (most - start)) (Some r) start e (Ok tt) mid → new ≡ record mid { cuts = take MOST_CUTS (record { revision = r; start = start; len = most - start } ∷ mid.cuts) } → CarriesOut Keys.Cut e (Ok tt) new
  cut_taken {new} done kept =
      let so = rw (low, high, last, place) at done in
      let same : mid.cuts ≡ e.cuts = ap (λ (x : Editing). x.cuts) so.revises.rest in
      plan_taken Keys.Cut e _ _ _ _ mid new h (cut_plan e m is h (sym mark) inside (λ same. other (same ∙ sym place))) so
      (kept ∙ rw (low, high, last, place) (ap (λ (cs : List CutSpan). record mid { cuts = take MOST_CUTS (span_cut e m ∷ cs) }) same))

  pub cut_inside : HoldsHistory mid.session → RevisesOrNot (Delete r start (most - start)) (Some r) start e (Ok tt) mid → IsCutSpan mid.session (record { revision = r; start = start; len = most - start })
  cut_inside k done = rw (low, high, last, place) (cut_lies e mid m _ _ is h k inside (λ same. other (same ∙ sym place)) (rw (low, high, last, place) at done))
