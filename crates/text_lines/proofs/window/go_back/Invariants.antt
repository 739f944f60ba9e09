use Rattle.std.proofs.Common.{◌≡◌, ◌-◌, ◌≤◌}
use Rattle.cord_search.specs.Stated.{OfText}
use Rattle.text_lines.specs.declared.window.TheConstants.{LINES_ABOVE}
use Rattle.text_lines.specs.HeldBytes.{HoldsText}
use Rattle.text_lines.specs.Rows.{IsAbove}
use Rattle.text_lines.proofs.window.go_back.Given as goal

-- the sources are as they were, and no read of them has failed; bytes of the text are held
abbrev pub invariant-loop-row : goal.invariant-loop-row
invariant-loop-row g l = record {
  reads : g.T.Sources.reading l.sources ≡ g.T.Sources.reading l.initial.sources;
  inside : l.top ≤ l.start;
  few : l.row ≤ LINES_ABOVE;
  held : HoldsText (g.S.NodeSpace.table l.space) (g.T.Sources.reading l.initial.sources) l.rope l.held;
  told : OfText (g.S.NodeSpace.table l.space) (g.T.Sources.reading l.initial.sources).stated l.rope (λ t. IsAbove t l.start l.top l.row);
}

abbrev pub decreases-loop-row : goal.decreases-loop-row
decreases-loop-row g l = LINES_ABOVE - l.row
