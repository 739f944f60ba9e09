-- Lists of numbers that are alike at each place.
use Rattle.std.proofs.Common.{◌≡◌, ℕ, suc, ◌<◌, List, [], ◌∷◌, length, get_or, refl, arith}

pub same_lists : (xs ys : List ℕ) → length xs ≡ length ys → ((r : ℕ) → r < length xs → get_or xs r 0 ≡ get_or ys r 0) → xs ≡ ys
same_lists [] [] len h = refl
same_lists [] (y ∷ ys) len h = absurd (omega arith)
same_lists (x ∷ xs) [] len h = absurd (omega arith)
same_lists (x ∷ xs) (y ∷ ys) len h = rw (h 0 (omega arith), same_lists xs ys (omega arith) (λ r lt. h (suc r) (omega arith))) refl
