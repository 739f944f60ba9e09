-- The places of one byte, against the places of the pattern that is that byte alone.
use Rattle.std.proofs.Common.{◌≡◌, ℕ, zero, suc, ◌+◌, ◌-◌, ◌<◌, ◌≤◌, Bool, false, List, [], ◌∷◌, length, drop, get_or, Some, None, ◌⊎◌, inl, inr, sym, ap, subst, ◌∙◌, arith, eq-eqb}
use Rattle.std.proofs.lemmas.Bool.{cases_Bool, cases_eq, eqb-true, false≢true}
use Rattle.memchr.specs.Find.{FindsNeedle, NoneBefore, Nowhere, OccursAt, Passes, is_byte, places_between}
use Rattle.memchr.proofs.lemmas.PlaceLemmas.{places_between-first, places_between-none}

-- a place from i on does not pass, where i does not, nor any behind it
behind_miss : (test : ℕ → Bool) (hay : List ℕ) (i k : ℕ) → test (get_or hay i 0) ≡ false → i ≤ k → (i + 1 ≤ k → ¬ Passes test hay k) → ¬ Passes test hay k
behind_miss test hay i k miss above behind passes =
    elim (cases_eq k i) [
      | inl is ↦ false≢true (sym miss ∙ subst (Passes test hay) is passes)
      | inr other ↦ behind (omega (arith, above, other)) passes
    ]

-- a first place that passes, or none
first_or_none : (test : ℕ → Bool) (hay : List ℕ) (i n : ℕ) → Nowhere (Passes test hay) i (i + n) ⊎ ((k : ℕ) × NoneBefore (Passes test hay) i (i + n) k × Passes test hay k)
first_or_none test hay i zero = inl (λ k above below. absurd (omega (arith, above, below)))
first_or_none test hay i (suc n) =
    elim (cases_Bool (test (get_or hay i 0))) [
      | inl here ↦
          inr (i, record { low = omega arith; high = omega arith; before = λ k above below. absurd (omega (arith, above, below)) }, here)
      | inr miss ↦
          elim (first_or_none test hay (i + 1) n) [
            | inl none ↦ inl (λ k above below. behind_miss test hay i k miss above (λ behind. none k behind (omega (arith, below))))
            | inr later ↦
                inr (
                  later.0,
                  record {
                    low = omega (arith, later.1.low);
                    high = omega (arith, later.1.high);
                    before = λ k above below. behind_miss test hay i k miss above (λ behind. later.1.before k behind below);
                  },
                  later.2,
                )
          ]
    ]

-- a pattern of one byte occurs where that byte stands
byte_passes : (hay : List ℕ) (b k : ℕ) → OccursAt hay (b ∷ []) k → Passes (is_byte b) hay k
byte_passes hay b k occurs =
    let here : k ≡ k + 0 = omega arith in
    eq-eqb _ _ (ap (λ (n : ℕ). get_or hay n 0) here ∙ occurs.reads 0 (omega arith))

byte_occurs : (hay : List ℕ) (b k : ℕ) → k < length hay → Passes (is_byte b) hay k → OccursAt hay (b ∷ []) k
byte_occurs hay b k inside passes = record { fits = omega (arith, inside); reads = λ j lt. same j lt }
  where
    same : (j : ℕ) → j < 1 → get_or hay (k + j) 0 ≡ get_or (b ∷ []) j 0
    same zero lt =
        let here : k + 0 ≡ k = omega arith in
        ap (λ (n : ℕ). get_or hay n 0) here ∙ eqb-true _ _ passes
    same (suc j) lt = absurd (omega (arith, lt))

-- the first of a byte's places is the pattern's next place, and the others are behind it
pub next_byte : (bytes : List ℕ) (b at k : ℕ) (rest : List ℕ) → at ≤ length bytes → places_between (is_byte b) bytes at (length bytes) ≡ k ∷ rest
    → FindsNeedle bytes (b ∷ []) at (Some k) × (rest ≡ places_between (is_byte b) bytes (k + 1) (length bytes))
next_byte bytes b at k rest inside is =
    let test = is_byte b in
    let n = length bytes - at in
    let all : at + n ≡ length bytes = omega (arith, inside) in
    elim (first_or_none test bytes at n) [
      | inl none ↦ absurd (no_places (sym (places_between-none test bytes at (length bytes) inside (subst (Nowhere (Passes test bytes) at) all none)) ∙ is))
      | inr found ↦
          let before : NoneBefore (Passes test bytes) at (length bytes) found.0 = subst (λ (j : ℕ). NoneBefore (Passes test bytes) at j found.0) all found.1 in
          let split : k ∷ rest ≡ found.0 ∷ places_between test bytes (found.0 + 1) (length bytes) = sym is ∙ places_between-first test bytes at (length bytes) found.0 before found.2 in
          let same : found.0 ≡ k = sym (ap (λ (xs : List ℕ). get_or xs 0 0) split) in
          let later : rest ≡ places_between test bytes (found.0 + 1) (length bytes) = ap (drop 1) split in (
            subst (λ (p : ℕ). FindsNeedle bytes (b ∷ []) at (Some p)) same (
              record {
                low = before.low;
                high = omega (arith, before.high);
                before = λ j above below other. before.before j above below (byte_passes bytes b j other);
              },
              byte_occurs bytes b found.0 before.high found.2,
            ),
            subst (λ (p : ℕ). rest ≡ places_between test bytes (p + 1) (length bytes)) same later,
          )
    ]
  where
    no_places : [] ≡ k ∷ rest → ⊥
    no_places e = absurd cc

-- without any, the pattern stands nowhere from there on
pub no_byte : (bytes : List ℕ) (b at : ℕ) → at ≤ length bytes → places_between (is_byte b) bytes at (length bytes) ≡ [] → FindsNeedle bytes (b ∷ []) at None
no_byte bytes b at inside is =
    let test = is_byte b in
    let n = length bytes - at in
    let all : at + n ≡ length bytes = omega (arith, inside) in
    elim (first_or_none test bytes at n) [
      | inl none ↦ λ j above below other. none j above (omega (arith, all, other.fits)) (byte_passes bytes b j other)
      | inr found ↦
          let before : NoneBefore (Passes test bytes) at (length bytes) found.0 = subst (λ (j : ℕ). NoneBefore (Passes test bytes) at j found.0) all found.1 in
          let split : [] ≡ found.0 ∷ places_between test bytes (found.0 + 1) (length bytes) = sym is ∙ places_between-first test bytes at (length bytes) found.0 before found.2 in
          absurd cc
    ]
