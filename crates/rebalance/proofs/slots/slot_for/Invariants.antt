use Rattle.std.proofs.Common.{◌<◌, ◌≤◌, ◌-◌}
use Rattle.rope_node.specs.Balance.{fibonacci}
use Rattle.rebalance.proofs.slots.slot_for.Given as goal
use Rattle.rebalance.specs.declared.slots.TheConstants.{SLOTS}

abbrev pub invariant-loop-slot : goal.invariant-loop-slot
invariant-loop-slot l = (2 ≤ l.slot) × (fibonacci l.slot ≤ l.len) × (l.slot < SLOTS)

abbrev pub decreases-loop-slot : goal.decreases-loop-slot
decreases-loop-slot l = SLOTS - l.slot
