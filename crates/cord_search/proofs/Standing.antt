-- Where a pattern stands, byte by byte.
use Rattle.std.proofs.Common.{◌≡◌, ℕ, zero, suc, ◌+◌, ◌<◌, ◌≤◌, List, [], ◌∷◌, length, take, drop, get_or, Some, inl, inr, sym, ap, ◌∙◌, arith}
use Rattle.std.proofs.lemmas.Bool.{cases_lt}
use Rattle.std.specs.Prelude.{slice_get}
use Rattle.std.proofs.lemmas.List.{get_or-drop, get_or-take, length-drop, length-take}
use Rattle.std.proofs.lemmas.Option.{same_Some, slice_get_within, slice_get-get_or}
use Rattle.cord_search.specs.Places.{StandsAt}

-- a pattern that stands at a place has each of its bytes there
pub pattern_byte : (t s : List ℕ) (place k : ℕ) → take (length s) (drop place t) ≡ s → k < length s → slice_get t (place + k) ≡ Some (get_or s k 0)
pattern_byte t s place k same inside =
    let held : place + k < length t = omega (arith, ap length same, length-take (length s) (drop place t), length-drop place t, inside) in
    let byte : get_or t (place + k) 0 ≡ get_or s k 0 = sym (get_or-drop place t k 0) ∙ sym (get_or-take (length s) (drop place t) k 0 inside) ∙ ap (λ xs. get_or xs k 0) same in
    slice_get-get_or t (place + k) 0 held ∙ ap Some byte

-- a byte stands where it is read
pub byte_stands : (t : List ℕ) (place b : ℕ) → slice_get t place ≡ Some b → StandsAt (b ∷ []) t place
byte_stands t place b at = record {
  inside = omega (arith, slice_get_within t place b at);
  same = first t place b at;
}
  where
    first : (t : List ℕ) (place b : ℕ) → slice_get t place ≡ Some b → take 1 (drop place t) ≡ b ∷ []
    first [] place b e = absurd cc
    first (x ∷ xs) zero b e = ap (λ (y : ℕ). y ∷ []) (same_Some x b e)
    first (x ∷ xs) (suc place) b e = first xs place b e

pub byte_read : (t : List ℕ) (place b : ℕ) → StandsAt (b ∷ []) t place → slice_get t place ≡ Some b
byte_read t place b stands = ap (slice_get t) (omega arith) ∙ pattern_byte t (b ∷ []) place 0 stands.same (omega arith)

-- it stands at no place where too few bytes are left
pub none_past : (s t : List ℕ) (start k : ℕ) → ((j : ℕ) → start ≤ j → j < k → ¬ StandsAt s t j) → length t < k + length s → (j : ℕ) → start ≤ j → ¬ StandsAt s t j
none_past s t start k before short j from stands =
    elim (cases_lt j k) [
      | inl below ↦ before j from below stands
      | inr past ↦ absurd (omega (arith, stands.inside, short, past))
    ]
