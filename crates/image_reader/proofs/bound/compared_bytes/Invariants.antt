use Rattle.std.proofs.Common.{◌≡◌, ◌*◌, ◌≤◌, take}
use Rattle.std.specs.List.{sum_by}
use Rattle.span_certificate.specs.Looks.{row_bytes}
use Rattle.span_certificate.specs.declared.walk.TheConstants.{BYTES_LIMIT}
use Rattle.image_reader.proofs.bound.compared_bytes.Given as goal

abbrev pub invariant-loop-j : goal.invariant-loop-j
invariant-loop-j l = record {
  value : l.bytes ≡ sum_by row_bytes (take l.j l.image.rows);
  limit : l.bytes ≤ BYTES_LIMIT * l.j;
}
