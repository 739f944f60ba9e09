use Rattle.std.proofs.Common.{◌≡◌, ◌≤◌, IfSome}
use Rattle.rope_node.specs.Denotes.{rope_len}
use Rattle.cord_search.specs.Stated.{OfText}
use Rattle.text_lines.specs.HeldBytes.{HoldsText}
use Rattle.text_lines.proofs.RowWalk.{IsAtRow}
use Rattle.text_lines.proofs.rows.push_rows.Given as goal

-- the sources are as they were, and no read of them has failed; bytes of the text are held
abbrev pub invariant-loop-row : goal.invariant-loop-row
invariant-loop-row g l = record {
  reads : g.T.Sources.reading l.sources ≡ g.T.Sources.reading l.initial.sources;
  inside : IfSome l.next (λ s. s ≤ rope_len (g.S.NodeSpace.table l.space) l.rope);
  held : HoldsText (g.S.NodeSpace.table l.space) (g.T.Sources.reading l.initial.sources) l.rope l.held;
  told : OfText (g.S.NodeSpace.table l.space) (g.T.Sources.reading l.initial.sources).stated l.rope
      (λ t. IsAtRow t l.top l.left l.row l.next l.initial.out.items l.out.items);
}
