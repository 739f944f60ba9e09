use Rattle.image_reader.specs.Reading.{row_count_in}
use Rattle.image_reader.proofs.Counting.{IsCountedTo}
use Rattle.image_reader.proofs.decode.counted_rows.Given as goal

abbrev pub invariant-loop : goal.invariant-loop
invariant-loop l = IsCountedTo row_count_in l.count l.counter l.rest l.bytes l.sum
