-- Elements of a list from one on.
use Rattle.std.proofs.Common.{◌≡◌, ℕ, zero, suc, ◌+◌, List, [], ◌∷◌, ◌++◌, take, drop, Some, refl, sym, ap, ◌∙◌, arith}
use Rattle.std.specs.Prelude.{slice_get}
use Rattle.session_image.proofs.Sections.{take_next}

slice_get-behind : {X : Type 0} (n : ℕ) (xs : List X) (k : ℕ) → slice_get (drop n xs) k ≡ slice_get xs (n + k)
slice_get-behind zero xs k = let none : k ≡ 0 + k = omega arith in ap (slice_get xs) none
slice_get-behind (suc n) [] k = refl
slice_get-behind (suc n) (x ∷ xs) k = let one : suc (n + k) ≡ suc n + k = omega arith in slice_get-behind n xs k ∙ ap (slice_get (x ∷ xs)) one

pub one_from : {X : Type 0} (n : ℕ) (xs : List X) (k : ℕ) (x : X) → slice_get xs (n + k) ≡ Some x → take (k + 1) (drop n xs) ≡ take k (drop n xs) ++ (x ∷ [])
one_from n xs k x at = (let one : k + 1 ≡ suc k = omega arith in ap (λ (m : ℕ). take m (drop n xs)) one) ∙ take_next (drop n xs) k x (slice_get-behind n xs k ∙ at)

-- a turn of a loop that pushes them
pub one_behind : {X : Type 0} (n : ℕ) (xs : List X) (k : ℕ) (x : X) (done more : List X) → slice_get xs (n + k) ≡ Some x → done ≡ take k (drop n xs) → more ≡ done ++ (x ∷ []) → more ≡ take (k + 1) (drop n xs)
one_behind n xs k x done more at before push = push ∙ ap (λ ys. ys ++ (x ∷ [])) before ∙ sym (one_from n xs k x at)

pub one_at : {X : Type 0} (xs : List X) (k : ℕ) (x : X) (done more : List X) → slice_get xs k ≡ Some x → done ≡ take k xs → more ≡ done ++ (x ∷ []) → more ≡ take (k + 1) xs
one_at xs k x done more at before push =
    push ∙ ap (λ ys. ys ++ (x ∷ [])) before ∙ sym ((let one : k + 1 ≡ suc k = omega arith in ap (λ (m : ℕ). take m xs) one) ∙ take_next xs k x at)
