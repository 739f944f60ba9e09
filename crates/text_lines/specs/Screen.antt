-- The bytes that show a place of a text on the screen.
use Rattle.std.specs.Prelude.{ℕ, ◌+◌, ◌-◌, ◌*◌, ◌/◌, ◌&&◌, nat_le, if◌then◌else◌, List, [], ◌∷◌, ◌++◌, length, map, take, drop, get_or, Option, Some, None, codes}
use Rattle.std.specs.List.{slice_split, count_by, flat_map, range_with_len}
use Rattle.std.specs.Fmt.{decimal}
use Rattle.text_lines.specs.declared.rows.TheConstants.{SCREEN_COLUMNS, SCREEN_ROWS}
use Rattle.text_lines.specs.declared.window.TheConstants.{LINES_ABOVE}
use Rattle.text_lines.specs.Lines.{is_break, column}

-- a control sequence: ESC [ and the rest
abbrev pub control : List ℕ → List ℕ
control rest = 0x1B ∷ codes "[" ++ rest

-- the line of place p of text t, counted from 0, and the first line and column that are shown
abbrev pub line_number_of : List ℕ → ℕ → ℕ
line_number_of t p = count_by is_break (take p t)

abbrev pub first_line : List ℕ → ℕ → ℕ
first_line t p = line_number_of t p - LINES_ABOVE

abbrev pub first_column : List ℕ → ℕ → ℕ
first_column t p = SCREEN_COLUMNS * (column t p / SCREEN_COLUMNS)

abbrev pub glyph : ℕ → ℕ
glyph b = if nat_le 0x20 b && nat_le b 0x7E then b else 0x3F

-- row k of the screen
abbrev pub screen_row : List ℕ → ℕ → ℕ → List ℕ
screen_row t p k =
    map glyph (take SCREEN_COLUMNS (drop (first_column t p) (get_or (slice_split is_break t) (first_line t p + k) [])))
    ++ 0x0D ∷ 0x0A ∷ []

abbrev pub rows_of_text : List ℕ → ℕ → List ℕ
rows_of_text t p = flat_map (screen_row t p) (range_with_len 0 SCREEN_ROWS)

abbrev pub message_of : Option (List ℕ) → List ℕ
message_of None = []
message_of (Some m) = codes " " ++ m

-- revision k, the place in a text of n bytes, and the message
abbrev pub status_of : ℕ → ℕ → ℕ → Option (List ℕ) → List ℕ
status_of k p n message =
    codes "rev " ++ decimal k ++ codes " byte " ++ decimal p ++ codes " of " ++ decimal n ++ message_of message

abbrev pub cursor_of : List ℕ → ℕ → List ℕ
cursor_of t p =
    control (decimal (line_number_of t p - first_line t p + 1) ++ codes ";" ++ decimal
    (column t p - first_column t p + 1) ++ codes "H")

-- the screen for place p of text t, the text of revision k
abbrev pub screen_of : List ℕ → ℕ → ℕ → Option (List ℕ) → List ℕ
screen_of t p k message =
    control (codes "2J") ++ control (codes "H") ++ rows_of_text t p ++ status_of k p (length t) message ++ cursor_of t p
