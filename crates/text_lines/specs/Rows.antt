-- The rows of the screen, one line behind the other.
use Rattle.std.specs.Prelude.{◌≡◌, ℕ, ◌+◌, ◌-◌, ◌≤◌, true, codes, List, [], ◌∷◌, ◌++◌, map, take, drop, get_or, Option, Some, None}
use Rattle.std.specs.List.{slice_split, flat_map, range_with_len}
use Rattle.std.specs.Fmt.{decimal}
use Rattle.text_lines.specs.declared.rows.TheConstants.{SCREEN_COLUMNS, SCREEN_ROWS}
use Rattle.text_lines.specs.Lines.{is_break, column}
use Rattle.text_lines.specs.Screen.{control, first_line, glyph, line_number_of}

-- what is shown of a line from this column on
abbrev pub shown_of : ℕ → List ℕ → List ℕ
shown_of left line = map glyph (take SCREEN_COLUMNS (drop left line))

-- the lines from the one that begins at this place, or none
abbrev pub lines_from : List ℕ → Option ℕ → List (List ℕ)
lines_from t None = []
lines_from t (Some start) = slice_split is_break (drop start t)

-- the row of line k of these
abbrev pub row_in : List (List ℕ) → ℕ → ℕ → List ℕ
row_in lines left k = shown_of left (get_or lines k []) ++ 0x0D ∷ 0x0A ∷ []

abbrev pub rows_on_screen : List (List ℕ) → ℕ → List ℕ
rows_on_screen lines left = flat_map (row_in lines left) (range_with_len 0 SCREEN_ROWS)

-- what is appended for the line that begins at start, or for none, and where the next one begins
pub record PushesLine (t : List ℕ) (start : Option ℕ) (left : ℕ) (next : Option ℕ) (old new : List ℕ) : Type 0 where
  pub pushed : new ≡ old ++ shown_of left (get_or (lines_from t start) 0 [])
  pub rest : lines_from t next ≡ drop 1 (lines_from t start)

-- the cursor at this row and this column, both counted from 1
abbrev pub cursor_at : ℕ → ℕ → List ℕ
cursor_at row column = control (decimal row ++ codes ";" ++ decimal column ++ codes "H")

-- a line begins at s: at the text's start, or behind a break
abbrev pub IsLineStart : List ℕ → ℕ → Type 0
IsLineStart t s = 1 ≤ s → is_break (get_or t (s - 1) 0) ≡ true

-- the line that begins at top is `row` lines above the one that begins at start
pub record IsAbove (t : List ℕ) (start top row : ℕ) : Type 0 where
  pub begins : IsLineStart t start → IsLineStart t top
  pub lines : IsLineStart t start → line_number_of t start ≡ line_number_of t top + row

-- Where the first line begins, how many lines are between it and that of place p, and how far p is behind its line's
-- start.
pub record IsWindow (t : List ℕ) (p top above behind : ℕ) : Type 0 where
  pub lines : slice_split is_break (drop top t) ≡ drop (first_line t p) (slice_split is_break t)
  pub row : above ≡ line_number_of t p - first_line t p
  pub column : behind ≡ column t p
