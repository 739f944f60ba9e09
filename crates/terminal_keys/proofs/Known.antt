-- What a terminal's keys have left, once bytes were read.
use Rattle.std.proofs.Common.{◌≡◌, ℕ, ◌≤◌, ◌<◌, List, [], ◌∷◌, length, take, get_or, Some, None, Option, option_map, refl, sym, ap, ◌∙◌, arith}
use Rattle.std.specs.Io.KnownBytes.{Consumes, IsAtEnd}
use Rattle.std.specs.Prelude.{slice_set}

-- where the bytes end, so do the keys
pub known_end : (f : List ℕ → List ℕ) (o : Option (List ℕ)) → IsAtEnd o → f [] ≡ [] → IsAtEnd (option_map f o)
known_end f None e h = tt
known_end f (Some xs) e h = ap f e ∙ h

-- a byte that is read and taken changes nothing of the keys
pub known_step : (f g : List ℕ → List ℕ) (o n : Option (List ℕ)) (b : ℕ) → Consumes o n (b ∷ []) → ((rest : List ℕ) → g rest ≡ f (b ∷ rest))
    → Consumes (option_map f o) (option_map g n) []
known_step f g None n b c h = tt
known_step f g (Some xs) None b c h = absurd c
known_step f g (Some xs) (Some ys) b c h = ap f c ∙ sym (h ys)

-- a key that is given is the first of them
pub known_key : (f g : List ℕ → List ℕ) (o : Option (List ℕ)) (k : ℕ) → ((rest : List ℕ) → f rest ≡ k ∷ g rest)
    → Consumes (option_map f o) (option_map g o) (k ∷ [])
known_key f g None k h = tt
known_key f g (Some xs) k h = h xs

-- bytes of one place
pub the_first : (n : ℕ) (bytes : List ℕ) → length bytes ≡ 1 → n ≤ 1 → 0 < n → take n bytes ≡ get_or bytes 0 0 ∷ []
the_first n [] l h p = let e : 0 ≡ 1 = l in absurd (omega (arith, e))
the_first n (b ∷ []) l h p = let one : n ≡ 1 = omega arith in rw one refl
the_first n (b ∷ c ∷ bs) l h p = let e : length (b ∷ c ∷ bs) ≡ 1 = l in absurd (omega (arith, e))

-- a key put in front
pub first_set : (k : ℕ) (bytes : List ℕ) → 0 < length bytes → take 1 (slice_set bytes 0 k) ≡ k ∷ []
first_set k [] h = absurd (omega arith)
first_set k (b ∷ bs) h = refl
