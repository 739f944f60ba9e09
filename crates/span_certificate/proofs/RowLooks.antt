-- The looks that the rows so far may have taken.
use Rattle.std.proofs.Common.{◌≡◌, ℕ, ◌+◌, ◌*◌, ◌<◌, ◌≤◌, List, length, take, drop, Some, ap, ◌∙◌, arith}
use Rattle.std.specs.Prelude.{slice_get}
use Rattle.std.specs.List.{sum_by}
use Rattle.std.proofs.lemmas.List.Sums.{sum_by_more, sum_by-take-le, sum_by-append}
use Rattle.std.proofs.lemmas.List.{length-take}
use Rattle.std.proofs.Math.Seq.{take-add}
use Rattle.std.proofs.lemmas.Option.{get_or_from_slice_get}
use Rattle.span_certificate.specs.declared.row.Row.{Row}
use Rattle.span_certificate.specs.Covers.{no_row}
use Rattle.span_certificate.specs.declared.looks.TheConstants.{LOOKS_LIMIT}
use Rattle.span_certificate.specs.Looks.{row_bytes, most_looks}

-- those of the first j rows
abbrev pub looks_before : List Row → ℕ → ℕ
looks_before rows j = LOOKS_LIMIT * j + LOOKS_LIMIT * sum_by row_bytes (take j rows)

pub looks_more : (rows : List Row) (j : ℕ) (row : Row) → j < length rows → slice_get rows j ≡ Some row → looks_before rows j + LOOKS_LIMIT + LOOKS_LIMIT * row_bytes row ≡ looks_before rows (j + 1)
looks_more rows j row lt is =
    let here = ap row_bytes (get_or_from_slice_get rows j row no_row is) in
    let more = sum_by_more row_bytes rows j no_row lt in
    omega (arith, here, more)

pub looks_within : (rows : List Row) (j : ℕ) → j ≤ length rows → looks_before rows j ≤ most_looks rows
looks_within rows j le = omega (arith, le, sum_by-take-le row_bytes rows j)

-- those of n rows from there on come after them
pub looks_span : (rows : List Row) (from n : ℕ) → looks_before rows from + most_looks (take n (drop from rows)) ≤ looks_before rows (from + n)
looks_span rows from n =
    let parts : sum_by row_bytes (take (from + n) rows) ≡ sum_by row_bytes (take from rows) + sum_by row_bytes (take n (drop from rows)) =
    ap (sum_by row_bytes) (take-add from n rows) ∙ sum_by-append row_bytes (take from rows) (take n (drop from rows)) in
    omega (arith, parts, length-take n (drop from rows))
