-- On the way down the recorded depth falls, so that a descent is short.
use Rattle.std.proofs.Common.{ℕ, ◌+◌, ◌<◌, ◌≤◌, length, arith}
use Rattle.rope_node.specs.Table.{Table, depth_at, IsSound}

-- now looks were taken on the way from node y to node x, where there were old before
abbrev pub IsCounted : Table → ℕ → ℕ → ℕ → ℕ → Type 0
IsCounted t y old x now = now + depth_at t x ≤ old + depth_at t y

-- the look at the last node is at most the 65th
pub counted_few : (t : Table) → IsSound t → (y old x now : ℕ) → y < length t.nodes → IsCounted t y old x now → now + 1 ≤ old + 65
counted_few t s y old x now there counted = omega (arith, counted, (s.nodes y there).not_deep)
