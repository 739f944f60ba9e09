use Rattle.std.proofs.Common.{ap, ◌<◌, length, arith}
use Rattle.std.proofs.lemmas.List.Sums.{sum_by_more}
use Rattle.std.proofs.lemmas.Option.{get_or_from_slice_get}
use Rattle.span_certificate.specs.Covers.{no_row}
use Rattle.span_certificate.specs.Looks.{row_bytes}
use Rattle.image_reader.proofs.bound.compared_bytes.Goals as goal

pub loop-j-preserved : goal.loop-j-preserved
loop-j-preserved c =
    let rows = c.args.image.now.rows in
    let there : c.loop-j.j < length rows = omega (arith, c.loop-j-test.true, c.row_count-j-end.ensures) in
    let here = ap row_bytes (get_or_from_slice_get rows c.loop-j.j c.row.result no_row c.row.ensures) in
    let more = sum_by_more row_bytes rows c.loop-j.j no_row there in
    record {
      value = omega (arith, here, more, c.row_bytes-bytes.ensures.value, c.loop-j.invariant.value);
      limit = omega (arith, c.row_bytes-bytes.ensures.limit, c.loop-j.invariant.limit);
    }
