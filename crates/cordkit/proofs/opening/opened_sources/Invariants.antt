use Rattle.std.proofs.Common.{◌≡◌, ◌+◌, ◌*◌, ◌≤◌, length}
use Rattle.cordkit.proofs.opening.opened_sources.Given as goal

abbrev pub invariant-loop-path : goal.invariant-loop-path
invariant-loop-path g l =
    (length l.sources.devices ≡ l.path-index) × (l.fn.blank.parts ≤ l.parts.parts + 2 * l.path-index) × (l.parts.amount ≡ 0)
