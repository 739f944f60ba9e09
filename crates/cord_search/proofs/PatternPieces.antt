-- What a search of a piece for a pattern tells of the text.
use Rattle.std.proofs.Common.{◌≡◌, ℕ, ◌+◌, ◌-◌, ◌<◌, ◌≤◌, List, length, get_or, Some, sym, subst, ap, ◌∙◌, arith}
use Rattle.std.specs.Prelude.{slice_get}
use Rattle.std.proofs.lemmas.List.{take_all}
use Rattle.std.proofs.lemmas.Option.{slice_get-get_or, get_or_from_slice_get}
use Rattle.memchr.specs.Find.{Nowhere, OccursAt}
use Rattle.cord_search.specs.Places.{StandsAt}
use Rattle.cord_search.proofs.Pieces.{first_bytes}
use Rattle.cord_search.proofs.Standing.{pattern_byte}

-- a pattern stands where it occurs in the piece
pub pattern_found : (u piece s : List ℕ) (place k : ℕ) → OccursAt piece s k → place + length piece ≤ length u → ((p : ℕ) → p < k + length s → slice_get piece p ≡ slice_get u (place + p)) → StandsAt s u (place + k)
pattern_found u piece s place k occurs held same = record {
  inside = omega (arith, occurs.fits, held);
  same = sym (first_bytes s u (place + k) (length s) (omega arith) byte) ∙ take_all (length s) s (omega arith);
}
  where
    byte : (j : ℕ) → j < length s → slice_get s j ≡ slice_get u ((place + k) + j)
    byte j lt =
        let there : place + (k + j) ≡ (place + k) + j = omega arith in
        slice_get-get_or s j 0 lt ∙ ap Some (sym (occurs.reads j lt)) ∙ sym (slice_get-get_or piece (k + j) 0 (omega (arith, lt, occurs.fits))) ∙ same (k + j) (omega (arith, lt)) ∙ ap (slice_get u) there

-- and it occurs where it stands, if enough of the piece is the text's
pattern_occurs : (u piece s : List ℕ) (place k m : ℕ) → k + length s ≤ m → m ≤ length piece → ((p : ℕ) → p < m → slice_get piece p ≡ slice_get u (place + p)) → StandsAt s u (place + k) → OccursAt piece s k
pattern_occurs u piece s place k m fits few same stands = record {
  fits = omega (arith, fits, few);
  reads = λ j lt.
      let there : place + (k + j) ≡ (place + k) + j = omega arith in
      get_or_from_slice_get piece (k + j) (get_or s j 0) 0 (same (k + j) (omega (arith, lt, fits)) ∙ ap (slice_get u) there ∙ pattern_byte u s (place + k) j stands.same lt);
}

pub no_pattern_in : (u piece s : List ℕ) (place b m : ℕ) → Nowhere (OccursAt piece s) 0 b → b + length s ≤ m + 1 → m ≤ length piece → ((p : ℕ) → p < m → slice_get piece p ≡ slice_get u (place + p))
    → (j : ℕ) → place ≤ j → j < place + b → ¬ StandsAt s u j
no_pattern_in u piece s place b m none fits few same j above below stands =
    let k = j - place in
    let at : place + k ≡ j = omega (arith, above) in
    let lt : k < b = omega (arith, above, below) in
    none k (omega arith) lt (pattern_occurs u piece s place k m (omega (arith, lt, fits)) few same (subst (StandsAt s u) (sym at) stands))
