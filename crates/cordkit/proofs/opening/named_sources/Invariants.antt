use Rattle.std.proofs.Common.{◌≡◌, ◌+◌, ◌*◌, ◌≤◌}
use Rattle.cordkit.proofs.opening.named_sources.Given as goal

abbrev pub invariant-loop-name : goal.invariant-loop-name
invariant-loop-name g l = (l.fn.blank.parts ≤ l.parts.parts + 2 * l.name-index) × (l.parts.amount ≡ 0)
