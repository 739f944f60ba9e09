use Rattle.std.proofs.Common.{◌≡◌, ◌<◌, ◌≤◌, ◌-◌, ℕ, max, ◌∷◌, []}
use Rattle.rope_node.specs.Denotes.{rope_len}
use Rattle.cord_search.specs.Stated.{OfSpan}
use Rattle.cord_search.specs.Reached.{StandsAtPlace}
use Rattle.cord_search.specs.Places.{StandsAt}
use Rattle.cord_search.proofs.single_bytes.chr_with.Given as goal

-- the sources are as they were, and no read of them has failed
abbrev pub invariant-loop-place : goal.invariant-loop-place
invariant-loop-place g l = record {
  reads : g.T.Sources.reading l.sources ≡ g.T.Sources.reading l.initial.sources;
  from : l.fn.i ≤ l.place;
  inside : l.place ≤ max l.fn.i (rope_len (g.S.NodeSpace.table l.space) l.fn.x);
  at : StandsAtPlace g.S.NodeSpace.table l.pos l.space l.fn.x l.place;
  told : OfSpan (g.S.NodeSpace.table l.space) (g.T.Sources.reading l.initial.sources).stated l.fn.x l.fn.i l.place
      (λ t. (j : ℕ) → l.fn.i ≤ j → j < l.place → ¬ StandsAt (l.fn.c ∷ []) t j);
}

abbrev pub decreases-loop-place : goal.decreases-loop-place
decreases-loop-place g l = l.len - l.place
