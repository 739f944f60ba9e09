-- How fast the Fibonacci numbers grow.
use Rattle.std.proofs.Common.{◌≡◌, ℕ, zero, suc, ◌+◌, ◌≤◌, arith, add-one, zero-add}
use Rattle.std.proofs.Math.Nat.{suc-add}
use Rattle.rope_node.specs.Balance.{fibonacci}

pub fibonacci_grows : (n : ℕ) → fibonacci n ≤ fibonacci (suc n)
unfolding fibonacci
fibonacci_grows zero = omega arith
fibonacci_grows (suc n) = omega arith

pub up_to : (n k : ℕ) → fibonacci n ≤ fibonacci (k + n)
up_to n zero = rw zero-add (omega arith)
up_to n (suc k) = rw suc-add (omega (arith, up_to n k, fibonacci_grows (k + n)))

pub fibonacci_next : (n : ℕ) → fibonacci (n + 1 + 1) ≡ fibonacci n + fibonacci (n + 1)
unfolding fibonacci
fibonacci_next n = rw (add-one (n + 1), add-one n) (omega arith)
