-- What a crash leaves of a journal.
use Rattle.std.proofs.Common.{◌≡◌, ◌≢◌, ℕ, ◌+◌, ◌-◌, ◌<◌, ◌≤◌, inl, inr, List, [], ◌∷◌, ◌++◌, length, take, drop, sym, ap, subst, ◌∙◌, arith, length-append}
use Rattle.std.specs.Prelude.{get_or}
use Rattle.std.proofs.lemmas.Bool.{cases_lt}
use Rattle.std.proofs.lemmas.List.{drop_more, take-append-drop, take-append-le}
use Rattle.std.proofs.Math.Seq.{take-append-add}
use Rattle.line_server.specs.Turns.{Step}
use Rattle.line_server.specs.Batches.{Serves}
use Rattle.line_server.specs.Journals.{IsTornFront, LeavesJournal}
use Rattle.line_server.proofs.Cuts.{leaves}

pub torn_front : (front : List ℕ) (n : ℕ) → n < length front → IsTornFront front (take n front)
torn_front front n h = (
  get_or front n 0,
  drop (n + 1) front,
  sym (take-append-drop n front) ∙ ap (λ (x : List ℕ). take n front ++ x) (drop_more front n 0 h),
)

pub leaves_journal : {T : Type 0} (step : Step T) (old new : T) (lines : List (List ℕ)) (kept told front : List ℕ) (n : ℕ)
    → Serves step old lines kept told new → LeavesJournal step old lines front (take n (front ++ kept))
leaves_journal step old new lines kept told front n h =
    elim (cases_lt n (length front)) [
      | inl part ↦
          let le : n ≤ length front = omega (arith, part) in
          inl (subst (IsTornFront front) (sym (take-append-le n front kept le)) (torn_front front n part))
      | inr whole ↦
          let m = n - length front in
          let at : n ≡ length front + m = omega (arith, whole) in
          inr (
            take m kept,
            ap (λ (k : ℕ). take k (front ++ kept)) at ∙ take-append-add front kept m,
            leaves step old new lines kept told h m,
          )
    ]

-- a text in front of another one
pub torn_some : (front text rest : List ℕ) → front ≡ text ++ rest → 1 ≤ length rest → IsTornFront front text
torn_some front text [] e some = absurd (omega (arith, some))
torn_some front text (b ∷ bs) e some = (b, bs, e)

-- all of it is no part of it
pub torn_only : (front text : List ℕ) → front ≡ text ++ [] → IsTornFront front text → ⊥
torn_only front text e t =
    omega (arith, ap length e, length-append text [], ap length t.2, length-append text (t.0 ∷ t.1))

-- it begins with a part of it
pub torn_begins : (front text : List ℕ) → ((rest : List ℕ) → front ≢ text ++ rest) → IsTornFront front text → ⊥
torn_begins front text none t = none (t.0 ∷ t.1) t.2
