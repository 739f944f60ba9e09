-- The looks that the rows of the revisions before one may have taken.
use Rattle.std.proofs.Common.{◌≡◌, ℕ, ◌+◌, ◌<◌, ◌≤◌, length, arith}
use Rattle.std.proofs.lemmas.List.Sums.{sum_by-take-le}
use Rattle.image_reader.specs.declared.revision.Revision.{Revision}
use Rattle.image_reader.specs.Value.{ImageValue, IsImage}
use Rattle.image_reader.specs.Accepted.{rows_before, rows_at, revision_at}
use Rattle.span_certificate.specs.Looks.{most_looks}
use Rattle.span_certificate.proofs.RowLooks.{looks_before, looks_span, looks_within}
use Rattle.session_checker.proofs.EarlierRevisions.{rows_before_more}

-- those of revision k come after them
pub rows_more : (v : ImageValue) (k from next : ℕ) → k < length v.revisions → from ≡ rows_before v k → next ≡ rows_before v (k + 1) → looks_before v.rows from + most_looks (rows_at v k) ≤ looks_before v.rows next
rows_more v k from next there from_is next_is = rw (from_is, next_is, rows_before_more v k there) (looks_span v.rows (rows_before v k) (revision_at v k).rows)

-- and all of them are those of all rows
pub rows_within : (v : ImageValue) → IsImage v → (k from : ℕ) → from ≡ rows_before v k → looks_before v.rows from ≤ most_looks v.rows
rows_within v is k from from_is =
    let within : from ≤ length v.rows = omega (arith, from_is, is.rows_counted, sum_by-take-le (λ (r : Revision). r.rows) v.revisions k) in
    looks_within v.rows from within
