-- Laws of the Fibonacci numbers that slots rest on.
use Rattle.std.proofs.Common.{◌≡◌, ℕ, suc, ◌+◌, ◌-◌, ◌*◌, ◌^◌, ◌<◌, ◌≤◌, inl, inr, max, refl, arith}
use Rattle.std.proofs.lemmas.Bool.{cases_lt}
use Rattle.rope_node.specs.Balance.{fibonacci}
use Rattle.rebalance.proofs.Growth.{up_to, fibonacci_next}

pub fibonacci_up : (a b : ℕ) → a ≤ b → fibonacci a ≤ fibonacci b
fibonacci_up a b le = let split : (b - a) + a ≡ b = omega arith in rw split at (up_to a (b - a))

-- a number that is below the one at b is at a place below b
pub fibonacci_below : (a b : ℕ) → fibonacci a < fibonacci b → a < b
fibonacci_below a b lt =
    elim (cases_lt a b) [
      | inl below ↦ below
      | inr past ↦ let up = fibonacci_up b a past in absurd (omega (arith, lt, up))
    ]

pub fibonacci_sum : (a b c : ℕ) → b ≡ a + 1 → c ≡ a + 2 → fibonacci c ≡ fibonacci a + fibonacci b
fibonacci_sum a b c next last =
    let two : c ≡ a + 1 + 1 = omega (arith, last) in
    rw (next, two) (fibonacci_next a)

pub first_ones : (fibonacci 1 ≡ 1) × (fibonacci 2 ≡ 1) × (fibonacci 3 ≡ 2) × (fibonacci 4 ≡ 3)
unfolding fibonacci
first_ones = (refl, refl, refl, refl)

-- ten places on
ten_on : (n : ℕ) → fibonacci (suc (suc (suc (suc (suc (suc (suc (suc (suc (suc n)))))))))) ≡ 55 * fibonacci (suc n) + 34 * fibonacci n
unfolding fibonacci
ten_on n = omega arith

tenth : (fibonacci 10 ≡ 55) × (fibonacci 11 ≡ 89)
unfolding fibonacci
tenth = (refl, refl)

pub fiftieth_and_sixtieth : (fibonacci 50 ≡ 12586269025) × (fibonacci 60 ≡ 1548008755920)
fiftieth_and_sixtieth =
    let a = tenth.0 in
    let b = tenth.1 in
    let c : fibonacci 20 ≡ 6765 = omega (arith, ten_on 10, a, b) in
    let d : fibonacci 21 ≡ 10946 = omega (arith, ten_on 11, fibonacci_next 10, a, b) in
    let e : fibonacci 30 ≡ 832040 = omega (arith, ten_on 20, c, d) in
    let f : fibonacci 31 ≡ 1346269 = omega (arith, ten_on 21, fibonacci_next 20, c, d) in
    let g : fibonacci 40 ≡ 102334155 = omega (arith, ten_on 30, e, f) in
    let h : fibonacci 41 ≡ 165580141 = omega (arith, ten_on 31, fibonacci_next 30, e, f) in
    let i : fibonacci 50 ≡ 12586269025 = omega (arith, ten_on 40, g, h) in
    let j : fibonacci 51 ≡ 20365011074 = omega (arith, ten_on 41, fibonacci_next 40, g, h) in
    let k : fibonacci 60 ≡ 1548008755920 = omega (arith, ten_on 50, i, j) in
    (i, k)

pub sixtieth : 2 ^ 40 ≤ fibonacci 60
sixtieth = let numbers = fiftieth_and_sixtieth in omega (arith, numbers.1)

-- a node over two has a balanced depth where each of them leaves room for it
pub over_both : (a b n : ℕ) → fibonacci (a + 3) ≤ n → fibonacci (b + 3) ≤ n → fibonacci ((1 + max a b) + 2) ≤ n
over_both a b n left right =
    elim (cases_lt a b) [
      | inl lt ↦ let at : (1 + max a b) + 2 ≡ b + 3 = omega (arith, lt) in rw at right
      | inr le ↦ let at : (1 + max a b) + 2 ≡ a + 3 = omega (arith, le) in rw at left
    ]
