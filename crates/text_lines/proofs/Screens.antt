-- A screen, put together from its parts.
use Rattle.std.proofs.Common.{◌≡◌, ℕ, ◌+◌, ◌-◌, ◌*◌, ◌/◌, List, ◌++◌, length, Option, Some, ap, ◌∙◌, codes}
use Rattle.text_lines.specs.declared.rows.TheConstants.{SCREEN_COLUMNS}
use Rattle.text_lines.specs.Lines.{column}
use Rattle.text_lines.specs.Screen.{control, cursor_of, first_column, first_line, line_number_of, rows_of_text, screen_of, status_of}
use Rattle.text_lines.specs.Rows.{IsWindow, cursor_at, lines_from, rows_on_screen}
use Rattle.text_lines.proofs.RowWalk.{rows_of_window}

-- four parts, each behind those before it
four_parts : (a r s c a' r' s' c' x y z : List ℕ) → x ≡ a ++ r → y ≡ x ++ s → z ≡ y ++ c → a ≡ a' → r ≡ r' → s ≡ s' → c ≡ c' → z ≡ a' ++ r' ++ s' ++ c'
four_parts a r s c a' r' s' c' x y z hx hy hz ha hr hs hc = cc

pub screen_is : (t : List ℕ) (p revision top row behind left len : ℕ) (message : Option (List ℕ)) (clear shown line named end all : List ℕ)
    → IsWindow t p top row behind → left ≡ SCREEN_COLUMNS * (behind / SCREEN_COLUMNS) → len ≡ length t
    → clear ≡ control (codes "2J") ++ control (codes "H") → shown ≡ clear ++ rows_on_screen (lines_from t (Some top)) left
    → line ≡ status_of revision p len message → named ≡ shown ++ line
    → end ≡ cursor_at (row + 1) (behind - left + 1) → all ≡ named ++ end
    → all ≡ screen_of t p revision message
screen_is t p revision top row behind left len message clear shown line named end all window left_is long cleared rows status second cursor third =
    let first : left ≡ first_column t p = left_is ∙ ap (λ (n : ℕ). SCREEN_COLUMNS * (n / SCREEN_COLUMNS)) window.column in
    let text : rows_on_screen (lines_from t (Some top)) left ≡ rows_of_text t p = ap (rows_on_screen (lines_from t (Some top))) first ∙ rows_of_window t p top row behind window in
    let words : line ≡ status_of revision p (length t) message = status ∙ ap (λ (n : ℕ). status_of revision p n message) long in
    let place : end ≡ cursor_of t p = cursor ∙ ap (λ (n : ℕ). cursor_at (n + 1) (behind - left + 1)) window.row ∙ ap (λ (n : ℕ). cursor_at (line_number_of t p - first_line t p + 1) (n - left + 1)) window.column ∙ ap (λ (n : ℕ). cursor_at (line_number_of t p - first_line t p + 1) (column t p - n + 1)) first in
    four_parts clear (rows_on_screen (lines_from t (Some top)) left) line end (control (codes "2J") ++ control (codes "H")) (rows_of_text t p) (status_of revision p (length t) message) (cursor_of t p)
    shown named all rows second third cleared text words place
