use Rattle.std.proofs.Common.{◌∙◌, arith}
use Rattle.node_table.specs.Held.{table_of}
use Rattle.rebalance.proofs.Filling.{part_short, no_slots, none_at}
use Rattle.rebalance.proofs.Gathered.{gathered_text, spread_text}
use Rattle.rebalance.proofs.StepLaws.{ok_map, steps_after}
use Rattle.rebalance.proofs.balancing.rebuild.Goals as goal
use Rattle.rebalance.specs.declared.slots.TheConstants.{SLOTS}

pub fill-requires-clause-slots : goal.fill-requires-clause-slots
fill-requires-clause-slots g c = rw c.empty-slots.ensures.ropes (no_slots (table_of g.F.LeafFn.meaning c.args.store.now))

pub fill-requires-clause-empty : goal.fill-requires-clause-empty
fill-requires-clause-empty g c = rw c.empty-slots.ensures.ropes (λ i lt. none_at SLOTS i)

pub join_below-requires-clause-short : goal.join_below-requires-clause-short
join_below-requires-clause-short g c =
    let meaning = g.F.LeafFn.meaning in
    let fills = rw c.empty-slots.ensures.ropes at c.in_ok-fill.ensures.fills in
    let text = spread_text (table_of meaning c.fill.new.store) _ _ 0 c.fill.new.slots.ropes fills.spread in
    rw text (part_short (table_of meaning c.args.store.now) c.count-count.ensures.sound c.count-count.ensures.true_records c.args.span.node.0 c.args.span.start c.args.span.len c.requires.there)

pub returns-clause-steps : goal.returns-clause-steps
returns-clause-steps g c =
    let fills = rw c.empty-slots.ensures.ropes at c.in_ok-fill.ensures.fills in
    steps_after c.join_below.result fills.steps.grows c.join_below.ensures.steps (omega (arith, fills.spread.nodes)) fills.steps.grows.few_bytes

pub returns-clause-text : goal.returns-clause-text
returns-clause-text g c =
    let meaning = g.F.LeafFn.meaning in
    let fills = rw c.empty-slots.ensures.ropes at c.in_ok-fill.ensures.fills in
    let text = spread_text (table_of meaning c.fill.new.store) _ _ 0 c.fill.new.slots.ropes fills.spread in
    ok_map c.join_below.result (λ r s. gathered_text (table_of meaning c.join_below.new.store) _ _ c.join_below.new.slots.ropes r s ∙ text) c.join_below.ensures.spread
