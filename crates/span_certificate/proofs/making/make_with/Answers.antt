use Rattle.std.proofs.Common.{arith}
use Rattle.span_certificate.proofs.Made.{IsMaking, making_none, covers_at_end, made_rows}
use Rattle.span_certificate.proofs.making.make_with.Goals as goal

pub returns-in-None : goal.returns-in-None
returns-in-None g c =
    let t = g.S.NodeSpace.table c.args.space.now in
    let coded = g.S.CodedSpace.coded c.args.space.now in
    let making : IsMaking t coded c.args.parts c.args.root c.new.result.items 0 = rw c.new.ensures.items (making_none t coded c.args.parts c.args.root) in
    made_rows t coded c.args.parts c.args.root c.new.result 0 making
    (covers_at_end t c.count-nodes.ensures.sound c.count-nodes.ensures.true_records coded c.args.parts c.args.root c.new.result.items 0
    c.requires.parts c.requires.root c.requires.same making (rw c.in-None.is (omega arith)))

pub returns-in-Some : goal.returns-in-Some
returns-in-Some g c = rw c.in-Some.is c.make_for.ensures
