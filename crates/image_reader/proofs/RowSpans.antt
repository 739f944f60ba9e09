-- A part of the rows.
use Rattle.std.proofs.Common.{◌≡◌, ℕ, zero, suc, ◌+◌, ◌<◌, ◌≤◌, List, [], ◌∷◌, length, take, drop, refl, ◌∙◌, arith, zero-add}
use Rattle.std.specs.Prelude.{slice_get}
use Rattle.std.proofs.Math.Nat.{suc-add}
use Rattle.std.proofs.lemmas.List.{length-take, length-drop}
use Rattle.rope_node.proofs.Parts.{slice_get-take}

slice_get-drop : {X : Type 0} (i j : ℕ) (xs : List X) → slice_get (drop i xs) j ≡ slice_get xs (i + j)
slice_get-drop zero j xs = rw zero-add refl
slice_get-drop (suc i) j [] = refl
slice_get-drop (suc i) j (x ∷ xs) = rw suc-add (slice_get-drop i j xs)

pub slice_get-span : {X : Type 0} (n i j : ℕ) (xs : List X) → j < n → slice_get (take n (drop i xs)) j ≡ slice_get xs (i + j)
slice_get-span n i j xs lt = slice_get-take n j (drop i xs) lt ∙ slice_get-drop i j xs

pub length-span : {X : Type 0} (n i : ℕ) (xs : List X) → i + n ≤ length xs → length (take n (drop i xs)) ≡ n
length-span n i xs fits = omega (arith, length-take n (drop i xs), length-drop i xs)
