use Rattle.std.proofs.Common.{ap, ◌∙◌}
use Rattle.image_reader.specs.Reading.{splice_count_in, counted_splices}
use Rattle.image_reader.proofs.Counting.{counted_to_more, counted_to_end}
use Rattle.image_reader.proofs.decode.counted_splices.Goals as goal

pub loop-preserved : goal.loop-preserved
loop-preserved c =
    rw c.split_at.ensures.back
    (counted_to_more splice_count_in c.args.count c.loop.counter c.loop.rest.now c.args.bytes.now c.loop.sum c.splices_in.result c.loop-test.true (c.splices_in.ensures ∙ ap splice_count_in c.split_at.ensures.front) c.splices_in.type_inv c.loop.invariant)

pub returns : goal.returns
unfolding counted_splices
returns c = counted_to_end splice_count_in c.args.count c.loop.counter c.loop.rest.now c.args.bytes.now c.loop.sum c.loop-test.false c.loop.invariant
