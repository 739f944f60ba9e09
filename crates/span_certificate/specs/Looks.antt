-- How many looks descents take.
use Rattle.std.specs.Prelude.{ℕ, ◌+◌, ◌*◌, min, List, length}
use Rattle.std.specs.List.{sum_by}
use Rattle.span_certificate.specs.declared.row.Row.{Row}
use Rattle.span_certificate.specs.declared.row.RowKind.{RowKind}
use Rattle.span_certificate.specs.declared.row.RowKind.TheVariants.{Shared, Leaf, Bytes}
use Rattle.span_certificate.specs.declared.looks.TheConstants.{LOOKS_LIMIT}
use Rattle.span_certificate.specs.declared.walk.TheConstants.{BYTES_LIMIT}
pub use Rattle.span_descent.specs.Counts.{BeginsCount}

-- how many bytes a row of this kind and length compares: of a row that is too long the most that one may have
abbrev pub kind_bytes : RowKind → ℕ → ℕ
kind_bytes (Shared k o) n = 0
kind_bytes Leaf n = 0
kind_bytes Bytes n = min BYTES_LIMIT n

abbrev pub row_bytes : Row → ℕ
row_bytes row = kind_bytes row.kind row.len

-- the most looks that rows take: `LOOKS_LIMIT` for each, and as many for each byte of those that compare bytes
abbrev pub most_looks : List Row → ℕ
most_looks rows = LOOKS_LIMIT * length rows + LOOKS_LIMIT * sum_by row_bytes rows
