use Rattle.std.proofs.Common.{ap, ◌∙◌}
use Rattle.image_reader.specs.Reading.{row_count_in, counted_rows}
use Rattle.image_reader.proofs.Counting.{counted_to_more, counted_to_end}
use Rattle.image_reader.proofs.decode.counted_rows.Goals as goal

pub loop-preserved : goal.loop-preserved
loop-preserved c =
    rw c.split_at.ensures.back
    (counted_to_more row_count_in c.args.count c.loop.counter c.loop.rest.now c.args.bytes.now c.loop.sum c.u32_in.result c.loop-test.true (c.u32_in.ensures ∙ ap row_count_in c.split_at.ensures.front) c.u32_in.type_inv c.loop.invariant)

pub returns : goal.returns
unfolding counted_rows
returns c = counted_to_end row_count_in c.args.count c.loop.counter c.loop.rest.now c.args.bytes.now c.loop.sum c.loop-test.false c.loop.invariant
