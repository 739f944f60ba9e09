use Rattle.std.proofs.Common.{◌≡◌, ◌≤◌, ◌-◌, ◌++◌, take, drop, map, length}
use Rattle.cord_search.specs.Stated.{OfText}
use Rattle.text_lines.specs.declared.rows.TheConstants.{SCREEN_COLUMNS}
use Rattle.text_lines.specs.Screen.{glyph}
use Rattle.text_lines.proofs.rows.push_row.Given as goal

-- the sources are as they were, and no read of them has failed; the bytes up to the place were pushed
abbrev pub invariant-loop-place : goal.invariant-loop-place
invariant-loop-place g l = record {
  reads : g.T.Sources.reading l.sources ≡ g.T.Sources.reading l.initial.sources;
  from : l.start ≤ l.place;
  until : l.place ≤ l.end;
  room : length l.buffer ≡ SCREEN_COLUMNS;
  told : OfText (g.S.NodeSpace.table l.space) (g.T.Sources.reading l.initial.sources).stated l.rope
      (λ t. l.out.items ≡ l.initial.out.items ++ map glyph (take (l.place - l.start) (drop l.start t)));
}

abbrev pub decreases-loop-place : goal.decreases-loop-place
decreases-loop-place g l = l.end - l.place
