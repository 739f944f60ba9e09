use Rattle.std.proofs.Common.{◌≡◌, ℕ, ◌+◌, ◌<◌, get_or}
use Rattle.cord_position.proofs.fill.fill_answers.Given as goal

abbrev pub invariant-loop-k : goal.invariant-loop-k
invariant-loop-k g l = (j : ℕ) → j < l.k → get_or l.buffer j 0 ≡ (g.S.NodeSpace.table l.space).answer l.leaf.0 (l.start + j)
