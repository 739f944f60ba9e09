-- A pattern's place in a text of the worked examples.
use Rattle.std.proofs.Common.{ℕ, zero, suc, ◌<◌, ◌≤◌, get_or, Some, refl, ap, arith, lit≤}
use Rattle.std.specs.Prelude.{codes}
use Rattle.cord_search.specs.Places.{StandsAt, IsFirst}

-- between the two places of `aab` there is none
aab_between : (j : ℕ) → 1 ≤ j → j < 3 → ¬ StandsAt (codes "aab") (codes "aabaab") j
aab_between zero from lt stands = omega (arith, from)
aab_between (suc zero) from lt stands = let second = ap (λ xs. get_or xs 1 0) stands.same in omega (arith, second)
aab_between (suc (suc zero)) from lt stands = let first = ap (λ xs. get_or xs 0 0) stands.same in omega (arith, first)
aab_between (suc (suc (suc j))) from lt stands = omega (arith, lt)

pub second_aab : IsFirst (codes "aab") (codes "aabaab") 1 (Some 3)
second_aab = record { from = lit≤ tt; stands = record { inside = lit≤ tt; same = refl }; none_before = aab_between }
