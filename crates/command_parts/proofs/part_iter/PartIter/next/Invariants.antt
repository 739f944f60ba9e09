use Rattle.std.proofs.Common.{◌≡◌, ◌+◌, ◌-◌, ◌*◌, ◌≤◌, ◌++◌, length, drop}
use Rattle.command_parts.specs.Parts.{nonempty}
use Rattle.command_parts.proofs.part_iter.PartIter.next.Given as goal

abbrev pub decreases-loop-self : goal.decreases-loop-self
decreases-loop-self g l = 4 * length l.self-inside.pieces + (3 - l.self-inside.given)

abbrev pub invariant-loop-self : goal.invariant-loop-self
invariant-loop-self g l = record {
  size : length l.self-inside.ready ≡ 3;
  within : l.self-inside.given ≤ 3;
  same : nonempty (drop l.self-inside.given l.self-inside.ready) ++ nonempty l.self-inside.pieces ≡ l.fn.self;
}
