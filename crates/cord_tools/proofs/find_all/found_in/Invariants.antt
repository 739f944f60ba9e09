use Rattle.std.proofs.Common.{◌+◌, ◌-◌, ◌≤◌, length}
use Rattle.cord_tools.specs.AllPlaces.{FindsIn}
use Rattle.cord_tools.proofs.find_all.found_in.Given as goal

-- the lines are those of the places up to the one that the search has come to
abbrev pub invariant-places : goal.invariant-places
invariant-places l = record {
  inside : l.at ≤ length l.bytes + 1;
  found : FindsIn l.finder l.bytes l.first (l.first + l.at) l.lines.items;
}

abbrev pub decreases-places : goal.decreases-places
decreases-places l = length l.bytes + 1 - l.at
