-- The rows of a screen, one behind the other.
use Rattle.std.proofs.Common.{◌≡◌, ℕ, ◌+◌, List, [], ◌∷◌, ◌++◌, drop, get_or, Option, Some, sym, ap, ◌∙◌, drop-drop, get_or-drop}
use Rattle.std.specs.List.{flat_map, range_with_len, slice_split}
use Rattle.text_lines.specs.declared.rows.TheConstants.{SCREEN_ROWS}
use Rattle.text_lines.specs.Lines.{is_break}
use Rattle.text_lines.specs.Screen.{first_column, first_line, rows_of_text}
use Rattle.text_lines.specs.Rows.{lines_from, row_in, rows_on_screen, shown_of, IsWindow, PushesLine}
use Rattle.text_lines.proofs.RowLaws.{row_shown}

-- k rows were pushed, and the line of the next one begins at next, if there is one
pub record IsAtRow (t : List ℕ) (top left k : ℕ) (next : Option ℕ) (old now : List ℕ) : Type 0 where
  pub line : drop k (lines_from t (Some top)) ≡ lines_from t next
  pub pushed : now ≡ old ++ flat_map (row_in (lines_from t (Some top)) left) (range_with_len 0 k)

-- one row more
pub row_more : (t : List ℕ) (top left k : ℕ) (next after : Option ℕ) (old now shown : List ℕ) → IsAtRow t top left k next old now → PushesLine t next left after now shown
    → IsAtRow t top left (k + 1) after old (shown ++ 0x0D ∷ 0x0A ∷ [])
row_more t top left k next after old now shown at line =
    let lines = lines_from t (Some top) in
    record {
      line = sym (drop-drop 1 k lines) ∙ ap (drop 1) at.line ∙ sym line.rest;
      pushed = row_shown lines (lines_from t next) old now (shown ++ 0x0D ∷ 0x0A ∷ []) left k at.line at.pushed (ap (λ (xs : List ℕ). xs ++ 0x0D ∷ 0x0A ∷ []) line.pushed);
    }

-- the rows from the window's top on are those of the screen
pub rows_of_window : (t : List ℕ) (p top row column : ℕ) → IsWindow t p top row column → rows_on_screen (lines_from t (Some top)) (first_column t p) ≡ rows_of_text t p
rows_of_window t p top row column window =
    ap (λ (lines : List (List ℕ)). rows_on_screen lines (first_column t p)) window.lines
    ∙ ap (λ (line : ℕ → List ℕ). flat_map (λ k. shown_of (first_column t p) (line k) ++ 0x0D ∷ 0x0A ∷ []) (range_with_len 0 SCREEN_ROWS)) (same_lines (first_line t p) (slice_split is_break t))
  where
    same_lines : (n : ℕ) (lines : List (List ℕ)) → ◌≡◌ {A = ℕ → List ℕ} (λ k. get_or (drop n lines) k []) (λ k. get_or lines (n + k) [])
    same_lines n lines = simp get_or-drop
