-- Parts of lists: of two put together, of a part, of a range, and under a map; and what stands in them.
use Rattle.std.proofs.Common.{◌≡◌, ℕ, zero, suc, ◌+◌, ◌-◌, ◌<◌, ◌≤◌, List, [], ◌∷◌, ◌++◌, map, length, take, drop, refl, ap, ◌∙◌, arith, add-zero}
use Rattle.std.proofs.Math.Nat.{sub-zero}
use Rattle.std.specs.Prelude.{slice_get}
use Rattle.std.specs.List.{range_with_len}
use Rattle.std.proofs.lemmas.List.{length-drop, drop-drop, drop-take, take-take, take-append-le, drop-append-le, take-map, drop-map}
use Rattle.std.proofs.Math.Seq.{drop-append-add}

-- a span inside the left one of two lists, inside the right one, and inside a span
pub span_left : {C : Type 0} (n p : ℕ) (xs ys : List C) → p + n ≤ length xs → take n (drop p (xs ++ ys)) ≡ take n (drop p xs)
span_left n p xs ys fits =
    ap (take n) (drop-append-le p xs ys (omega arith)) ∙ take-append-le n (drop p xs) ys (omega (arith, length-drop p xs))

pub span_right : {C : Type 0} (n p : ℕ) (xs ys : List C) → length xs ≤ p → take n (drop p (xs ++ ys)) ≡ take n (drop (p - length xs) ys)
span_right n p xs ys past =
    let split : p ≡ length xs + (p - length xs) = omega arith in
    ap (λ (j : ℕ). take n (drop j (xs ++ ys))) split ∙ ap (take n) (drop-append-add xs ys (p - length xs))

pub span_within : {C : Type 0} (n p m i : ℕ) (xs : List C) → p + n ≤ m → take n (drop p (take m (drop i xs))) ≡ take n (drop (p + i) xs)
span_within n p m i xs fits =
    let split : m ≡ p + (m - p) = omega arith in
    ap (λ (j : ℕ). take n (drop p (take j (drop i xs)))) split
    ∙ ap (take n) (drop-take p (m - p) (drop i xs))
    ∙ take-take n (m - p) (drop p (drop i xs)) (omega arith)
    ∙ ap (take n) (drop-drop p i xs)
    ∙ ap (λ (j : ℕ). take n (drop j xs)) (omega arith)

drop-range_with_len : (o a m : ℕ) → o ≤ m → drop o (range_with_len a m) ≡ range_with_len (a + o) (m - o)
drop-range_with_len zero a m le = rw (add-zero a, sub-zero m) refl
drop-range_with_len (suc o) a zero le = absurd (omega arith)
drop-range_with_len (suc o) a (suc m) le =
    drop-range_with_len o (a + 1) m (omega arith) ∙ ap (λ (b : ℕ). range_with_len b (m - o)) (omega arith) ∙ ap (range_with_len (a + suc o)) (omega arith)

take-range_with_len : (n a m : ℕ) → n ≤ m → take n (range_with_len a m) ≡ range_with_len a n
take-range_with_len zero a m le = refl
take-range_with_len (suc n) a zero le = absurd (omega arith)
take-range_with_len (suc n) a (suc m) le = ap (λ (xs : List ℕ). a ∷ xs) (take-range_with_len n (a + 1) m (omega arith))

pub span-range_with_len : (n o a m : ℕ) → o + n ≤ m → take n (drop o (range_with_len a m)) ≡ range_with_len (a + o) n
span-range_with_len n o a m fits =
    ap (take n) (drop-range_with_len o a m (omega arith)) ∙ take-range_with_len n (a + o) (m - o) (omega arith)

-- a span of a list under a map
pub span-map : {X Y : Type 0} (f : X → Y) (n o : ℕ) (xs : List X) → take n (drop o (map f xs)) ≡ map f (take n (drop o xs))
span-map f n o xs = ap (take n) (drop-map f o xs) ∙ take-map f n (drop o xs)

pub slice_get-take : {X : Type 0} (n k : ℕ) (xs : List X) → k < n → slice_get (take n xs) k ≡ slice_get xs k
slice_get-take zero k xs lt = absurd (omega arith)
slice_get-take (suc n) k [] lt = refl
slice_get-take (suc n) zero (x ∷ xs) lt = refl
slice_get-take (suc n) (suc k) (x ∷ xs) lt = slice_get-take n k xs (omega arith)

-- functions that answer alike map alike
pub map_alike : {A B : Type 0} (f g : A → B) → ((x : A) → f x ≡ g x) → (xs : List A) → map f xs ≡ map g xs
map_alike f g same [] = refl
map_alike f g same (x ∷ xs) = rw (same x, map_alike f g same xs) refl
