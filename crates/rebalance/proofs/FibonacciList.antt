-- A list whose numbers go on as the Fibonacci numbers do.
use Rattle.std.proofs.Common.{◌≡◌, ℕ, zero, suc, ◌+◌, ◌<◌, Bool, true, List, [], ◌∷◌, length, get_or, drop, refl, ap, ◌∙◌, arith}
use Rattle.std.proofs.lemmas.Bool.{and_parts, eqb-true}
use Rattle.std.specs.Prelude.{nat_eq, ◌&&◌}
use Rattle.rope_node.specs.Balance.{fibonacci}
use Rattle.rebalance.specs.declared.balanced.TheConstants.{FIBONACCI}
use Rattle.rebalance.proofs.Growth.{fibonacci_next}

-- behind the numbers a and b, each is the sum of the two before it
abbrev pub adds_up : ℕ → ℕ → List ℕ → Bool
adds_up a b [] = true
adds_up a b (c ∷ rest) = nat_eq (a + b) c && adds_up b c rest

listed_behind : (rest : List ℕ) (a b k i : ℕ) → a ≡ fibonacci k → b ≡ fibonacci (k + 1) → adds_up a b rest ≡ true → i < length rest → get_or rest i 0 ≡ fibonacci (k + 1 + 1 + i)
listed_behind [] a b k i first second adds there = absurd (omega (arith, there))
listed_behind (c ∷ rest) a b k zero first second adds there =
    let both = and_parts (nat_eq (a + b) c) (adds_up b c rest) adds in
    let sum : a + b ≡ c = eqb-true (a + b) c both.0 in
    let place : k + 1 + 1 ≡ k + 1 + 1 + 0 = omega arith in
    let is : c ≡ fibonacci (k + 1 + 1) = omega (arith, sum, first, second, fibonacci_next k) in
    is ∙ ap fibonacci place
listed_behind (c ∷ rest) a b k (suc i) first second adds there =
    let both = and_parts (nat_eq (a + b) c) (adds_up b c rest) adds in
    let sum : a + b ≡ c = eqb-true (a + b) c both.0 in
    let next : c ≡ fibonacci (k + 1 + 1) = omega (arith, sum, first, second, fibonacci_next k) in
    let place : (k + 1) + 1 + 1 + i ≡ k + 1 + 1 + suc i = omega arith in
    listed_behind rest b c (k + 1) i second next both.1 (omega (arith, there)) ∙ ap fibonacci place

-- a list that begins with 0 and 1 and goes on so
listed_from : (rest : List ℕ) → adds_up 0 1 rest ≡ true → (n : ℕ) → n < length (0 ∷ 1 ∷ rest) → get_or (0 ∷ 1 ∷ rest) n 0 ≡ fibonacci n
unfolding fibonacci
listed_from rest adds zero there = refl
listed_from rest adds (suc zero) there = refl
listed_from rest adds (suc (suc i)) there =
    let place : 0 + 1 + 1 + i ≡ suc (suc i) = omega arith in
    listed_behind rest 0 1 0 i refl refl adds (omega (arith, there)) ∙ ap fibonacci place

pub listed : (n : ℕ) → n < 68 → get_or FIBONACCI n 0 ≡ fibonacci n
listed n there = listed_from (drop 2 FIBONACCI) refl n there
