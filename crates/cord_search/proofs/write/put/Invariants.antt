use Rattle.std.proofs.Common.{◌≡◌, ◌≤◌, ◌-◌, take}
use Rattle.rope_node.specs.Denotes.{rope_len}
use Rattle.cord_search.specs.Reached.{StandsAtPlace}
use Rattle.cord_search.specs.Stated.{OfText}
use Rattle.std.specs.Io.KnownBytes.{Appends}
use Rattle.cord_search.proofs.write.put.Given as goal

-- the sources are as they were, and no read of them has failed
abbrev pub invariant-loop-done : goal.invariant-loop-done
invariant-loop-done g l = record {
  reads : g.T.Sources.reading l.sources ≡ g.T.Sources.reading l.initial.sources;
  inside : l.done ≤ rope_len (g.S.NodeSpace.table l.space) l.fn.x;
  at : StandsAtPlace g.S.NodeSpace.table l.pos l.space l.fn.x l.done;
  told : OfText (g.S.NodeSpace.table l.space) (g.T.Sources.reading l.initial.sources).stated l.fn.x (λ t. Appends (g.W.Write.contents l.initial.writer) (g.W.Write.contents l.writer) (take l.done t));
}

abbrev pub decreases-loop-done : goal.decreases-loop-done
decreases-loop-done g l = l.len - l.done
