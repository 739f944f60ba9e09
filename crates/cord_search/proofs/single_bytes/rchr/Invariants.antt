use Rattle.std.proofs.Common.{◌≡◌, ◌+◌, ◌≤◌, ℕ, ◌∷◌, []}
use Rattle.rope_node.specs.Denotes.{rope_len}
use Rattle.cord_search.specs.Stated.{OfSpan}
use Rattle.cord_search.specs.Places.{StandsAt}
use Rattle.cord_search.proofs.single_bytes.rchr.Given as goal

-- the sources are as they were, and no read of them has failed
abbrev pub invariant-loop-end : goal.invariant-loop-end
invariant-loop-end g l = record {
  reads : g.T.Sources.reading l.sources ≡ g.T.Sources.reading l.initial.sources;
  until : l.end ≤ l.fn.i + 1;
  inside : l.end ≤ rope_len (g.S.NodeSpace.table l.space) l.fn.x;
  told : OfSpan (g.S.NodeSpace.table l.space) (g.T.Sources.reading l.initial.sources).stated l.fn.x l.end (l.fn.i + 1)
      (λ t. (j : ℕ) → l.end ≤ j → j ≤ l.fn.i → ¬ StandsAt (l.fn.c ∷ []) t j);
}

abbrev pub decreases-loop-end : goal.decreases-loop-end
decreases-loop-end g l = l.end
