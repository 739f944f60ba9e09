-- Bytes that are given.
use Rattle.std.proofs.Common.{◌≡◌, ℕ, List, [], ◌∷◌, length, take, ◌<◌, Some, None, Option, refl, slice_set, arith}
use Rattle.std.specs.Prelude.{option_to_list}
use Rattle.std.specs.Io.KnownBytes.{Consumes, prepend_known}

-- the byte that is held is given
pub held_given : (old left : Option (List ℕ)) (held : Option ℕ) (b : ℕ) → held ≡ Some b → Consumes old (prepend_known (option_to_list held) left) []
    → Consumes old (prepend_known [] left) (b ∷ [])
held_given None left held b is h = tt
held_given (Some xs) None held b is h = absurd h
held_given (Some xs) (Some ys) held b is h = rw is at h

-- a byte put in front
pub first_set : (k : ℕ) (bytes : List ℕ) → 0 < length bytes → take 1 (slice_set bytes 0 k) ≡ k ∷ []
first_set k [] h = absurd (omega arith)
first_set k (b ∷ bs) h = refl
