use Rattle.std.proofs.Common.{◌≡◌, map, take, length}
use Rattle.text_lines.specs.declared.rows.TheConstants.{SCREEN_COLUMNS}
use Rattle.text_lines.specs.Screen.{glyph}
use Rattle.text_lines.proofs.rows.push_glyphs.Given as goal

-- the first k bytes stand in the array, as they are shown
abbrev pub invariant-loop-k : goal.invariant-loop-k
invariant-loop-k l = record {
  room : length l.shown ≡ SCREEN_COLUMNS;
  told : take l.k l.shown ≡ map glyph (take l.k l.bytes);
}
