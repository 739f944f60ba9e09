use Rattle.std.proofs.Common.{◌≡◌, ℕ, ◌+◌, ◌≤◌, [], ◌∷◌, length}
use Rattle.memchr.specs.Find.{is_byte, places_between}
use Rattle.cord_tools.specs.AllPlaces.{FindsIn}
use Rattle.cord_tools.proofs.find_all.found_byte.Given as goal

-- the lines are those of the places up to the one that the search has come to, and the others are left
abbrev pub invariant-places : goal.invariant-places
invariant-places l = record {
  at : ℕ;
  inside : at ≤ length l.bytes;
  left : l.places ≡ places_between (is_byte l.byte) l.bytes at (length l.bytes);
  found : FindsIn (l.byte ∷ []) l.bytes l.first (l.first + at) l.lines.items;
}

abbrev pub decreases-places : goal.decreases-places
decreases-places l = length l.places
