-- The order of texts.
use Rattle.std.specs.Prelude.{ℕ, List, [], ◌∷◌}
use Rattle.std.specs.declared.cmp.Ordering.{Ordering}
use Rattle.std.specs.declared.cmp.Ordering.TheVariants.{Less, Equal, Greater}
use Rattle.std.specs.Ordering.{nat_cmp, ordering_then}

-- by the first byte in which they differ, and a proper prefix is less
abbrev pub order : List ℕ → List ℕ → Ordering
order [] [] = Equal
order [] (y ∷ ys) = Less
order (x ∷ xs) [] = Greater
order (x ∷ xs) (y ∷ ys) = ordering_then (nat_cmp x y) (order xs ys)
