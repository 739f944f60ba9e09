use Rattle.std.proofs.Common.{arith}
use Rattle.node_table.specs.Held.{table_of}
use Rattle.rebalance.proofs.Filling.{fills_children, right_text}
use Rattle.rebalance.proofs.Splits.{span_stays}
use Rattle.rebalance.proofs.balancing.+fill.Goals as goal

pub fill-requires-in-Children-2 : goal.fill-requires-in-Children-2
fill-requires-in-Children-2 g t c κs within =
    let meaning = g.F.LeafFn.meaning in
    let first = c.in_ok-fill-in-Children.ensures.fills in
    let of = c.in-Children.ensures in
    let span = span_stays (table_of meaning c.args.store.now) (table_of meaning c.fill-in-Children.new.store) first.steps.grows.kept c.in-Children.right of.right_below.span in
    let text = right_text meaning c.args.store.now c.fill-in-Children.new.store c.args.keep c.args.slots.now.ropes c.fill-in-Children.new.slots.ropes c.args.span c.in-Children.left c.in-Children.right _ c.count-count.ensures.sound of first in
    (omega (arith, c.decreases, of.right_below.earlier), (within, (span, (first.spread.are, (c.in_ok-fill-in-Children.ensures.empty, rw text c.requires.short)))))

pub returns-in_ok-fill-in-Children-clause-fills : goal.returns-in_ok-fill-in-Children-clause-fills
returns-in_ok-fill-in-Children-clause-fills g t c =
    fills_children g.F.LeafFn.meaning c.args.store.now c.fill-in-Children.new.store c.fill-in-Children-2.new.store c.args.keep c.args.slots.now.ropes c.fill-in-Children.new.slots.ropes c.fill-in-Children-2.new.slots.ropes c.args.span c.in-Children.left c.in-Children.right _ c.fill-in-Children-2.result c.count-count.ensures.sound c.in-Children.ensures
    c.in_ok-fill-in-Children.ensures.fills c.fill-in-Children-2.ensures.fills
