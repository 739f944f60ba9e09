-- What a search of a piece for a byte tells of the text.
use Rattle.std.proofs.Common.{◌≡◌, ℕ, ◌+◌, ◌-◌, ◌<◌, ◌≤◌, List, [], ◌∷◌, length, get_or, Some, Bool, true, false, ◌==◌, inl, inr, refl, sym, subst, ap, ◌∙◌, arith}
use Rattle.std.specs.Prelude.{slice_get}
use Rattle.std.proofs.lemmas.Bool.{cases_lt, eqb-true, eqb-false}
use Rattle.std.proofs.lemmas.Option.{slice_get-get_or, get_or_from_slice_get}
use Rattle.memchr.specs.Find.{Nowhere, Passes, is_byte}
use Rattle.cord_search.specs.Places.{StandsAt}
use Rattle.cord_search.proofs.Standing.{byte_stands, byte_read}

pub itself : (n : ℕ) → (n == n) ≡ true
itself n = by (n == n) refl
  where
    by : (b : Bool) → (n == n) ≡ b → b ≡ true
    by true e = refl
    by false e = absurd (eqb-false n n e refl)

pub byte_found : (u run : List ℕ) (place c k : ℕ) → k < length run → Passes (is_byte c) run k → slice_get run k ≡ slice_get u (place + k) → StandsAt (c ∷ []) u (place + k)
byte_found u run place c k lt is same =
    byte_stands u (place + k) c (sym same ∙ slice_get-get_or run k 0 lt ∙ ap Some (eqb-true (get_or run k 0) c is))

-- where no byte of a part of the piece is it, it stands nowhere there
pub no_byte_in : (u run : List ℕ) (place c a b : ℕ) → Nowhere (Passes (is_byte c) run) a b → ((k : ℕ) → a ≤ k → k < b → slice_get run k ≡ slice_get u (place + k))
    → (j : ℕ) → place + a ≤ j → j < place + b → ¬ StandsAt (c ∷ []) u j
no_byte_in u run place c a b none same j above below stands =
    let k = j - place in
    let at : place + k ≡ j = omega (arith, above) in
    let low : a ≤ k = omega (arith, above) in
    let high : k < b = omega (arith, above, below) in
    let read : slice_get run k ≡ Some c = same k low high ∙ ap (slice_get u) at ∙ byte_read u j c stands in
    let byte : get_or run k 0 ≡ c = get_or_from_slice_get run k c 0 read in
    none k low high (subst (λ (z : ℕ). (z == c) ≡ true) (sym byte) (itself c))

-- what stands nowhere in two parts stands nowhere in both
pub nowhere_in_both : (s u : List ℕ) (i p q : ℕ) → ((j : ℕ) → i ≤ j → j < p → ¬ StandsAt s u j) → ((j : ℕ) → p ≤ j → j < q → ¬ StandsAt s u j) → (j : ℕ) → i ≤ j → j < q → ¬ StandsAt s u j
nowhere_in_both s u i p q first second j from lt stands =
    elim (cases_lt j p) [
      | inl below ↦ first j from below stands
      | inr past ↦ second j past lt stands
    ]

pub nowhere_up_to : (s u : List ℕ) (i p end : ℕ) → ((j : ℕ) → i ≤ j → j < p → ¬ StandsAt s u j) → ((j : ℕ) → p ≤ j → j ≤ end → ¬ StandsAt s u j) → (j : ℕ) → i ≤ j → j ≤ end → ¬ StandsAt s u j
nowhere_up_to s u i p end first second j from until stands =
    elim (cases_lt j p) [
      | inl below ↦ first j from below stands
      | inr past ↦ second j past until stands
    ]
