use Rattle.std.proofs.Common.{◌-◌, ◌≤◌, length}
use Rattle.cord_search.specs.Seeking.{CannotBegin}
use Rattle.cord_search.proofs.seeker.before_first.Given as goal

abbrev pub invariant-places : goal.invariant-places
invariant-places l = record {
  inside : l.from ≤ length l.bytes;
  none : CannotBegin l.finder l.bytes l.from;
}

abbrev pub decreases-places : goal.decreases-places
decreases-places l = length l.bytes - l.from
