-- Which lengths are enough for a depth.
use Rattle.std.specs.Prelude.{ℕ, zero, suc, ◌+◌, ◌≤◌, Option, Some, None}
use Rattle.rope_node.specs.declared.node.NodeId.{NodeId}
use Rattle.rope_node.specs.Table.{Table, len_at, depth_at}

-- each Fibonacci number is the sum of the two before it; the first and the second are 1
unfoldable pub fibonacci : ℕ → ℕ
fibonacci zero = 0
fibonacci (suc zero) = 1
fibonacci (suc (suc n)) = fibonacci (suc n) + fibonacci n

-- a rope of this length and depth is balanced
abbrev pub IsBalanced : ℕ → ℕ → Type 0
IsBalanced len depth = fibonacci (depth + 2) ≤ len

-- a rope that is not nil and balanced
abbrev pub IsBalancedRope : Table → Option NodeId → Type 0
IsBalancedRope t None = ⊥
IsBalancedRope t (Some id) = IsBalanced (len_at t id.0) (depth_at t id.0)
