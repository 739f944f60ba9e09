use Rattle.std.proofs.Common.{◌≡◌, ◌+◌, ◌<◌, None, length, get_or, arith}
use Rattle.std.proofs.lemmas.List.{append-nil}
use Rattle.std.proofs.lemmas.Result.{err_from_is_err_and}
use Rattle.node_table.specs.Held.{table_of}
use Rattle.rebalance.specs.Slots.{full_slots, slots_cells}
use Rattle.rebalance.proofs.SlotLists.{slot_rope}
use Rattle.rebalance.proofs.SlotSteps.{both_short, gather_step, gathered_shallow, room_for, slot_shallow, spread_join}
use Rattle.rebalance.proofs.StepLaws.{grows_itself, grows_through, refused_through}
use Rattle.rebalance.proofs.slots.join_below.Goals as goal
use Rattle.rebalance.specs.declared.slots.TheConstants.{SLOTS}

pub loop-m-init : goal.loop-m-init
loop-m-init g c = record {
  gathered = tt;
  spread = record { are = c.requires.slots; empty = λ i lt. c.requires.empty i (omega (arith, lt, c.min-m.ensures)); is_rope = tt; whole = append-nil _; nodes = omega arith };
  grows = grows_itself g.F.LeafFn.meaning c.args.store.now _ _ (omega arith) (omega arith);
}

pub join-requires-clause-left : goal.join-requires-clause-left
join-requires-clause-left g c =
    let t = table_of g.F.LeafFn.meaning c.loop-m.store in
    rw c.from.ensures (slot_rope t c.loop-m.m _ (c.loop-m.invariant.spread.are.each c.loop-m.m))

pub join-requires-clause-right : goal.join-requires-clause-right
join-requires-clause-right g c = c.loop-m.invariant.spread.is_rope

pub join-requires-clause-left_shallow : goal.join-requires-clause-left_shallow
join-requires-clause-left_shallow g c =
    let t = table_of g.F.LeafFn.meaning c.loop-m.store in
    rw c.from.ensures (slot_shallow t c.loop-m.m _ (c.loop-m.invariant.spread.are.each c.loop-m.m) (omega (arith, c.loop-m-test.true, c.requires.end)))

pub join-requires-clause-right_shallow : goal.join-requires-clause-right_shallow
join-requires-clause-right_shallow g c =
    gathered_shallow (table_of g.F.LeafFn.meaning c.loop-m.store) c.loop-m.m c.loop-m.rope c.loop-m.invariant.gathered (omega (arith, c.loop-m-test.true, c.requires.end))

pub join-requires-clause-short : goal.join-requires-clause-short
join-requires-clause-short g c =
    let t = table_of g.F.LeafFn.meaning c.loop-m.store in
    rw c.from.ensures (both_short t c.count-count.ensures.sound c.count-count.ensures.true_records _ _ c.loop-m.m c.loop-m.slots.ropes c.loop-m.rope c.loop-m.invariant.spread (omega (arith, c.loop-m-test.true, c.requires.end)) c.requires.short)

pub returns-in_err-rope-clause-steps : goal.returns-in_err-rope-clause-steps
returns-in_err-rope-clause-steps g c =
    let t = table_of g.F.LeafFn.meaning c.loop-m.store in
    let p = err_from_is_err_and c.from_residual.result c.from_residual.ensures.1 in
    let lt : c.loop-m.m < SLOTS = omega (arith, c.loop-m-test.true, c.requires.end) in
    let steps = rw c.from.ensures at c.in_err-rope.ensures.steps in
    let room = room_for t _ _ c.loop-m.m c.loop-m.slots.ropes c.loop-m.rope c.loop-m.invariant.spread lt in
    rw (p.1, p.2) (refused_through c.in_err-rope.field-0.0 c.loop-m.invariant.grows steps room c.loop-m.invariant.grows.few_bytes)

pub loop-m-preserved : goal.loop-m-preserved
loop-m-preserved g c =
    let meaning = g.F.LeafFn.meaning in
    let t = table_of meaning c.loop-m.store in
    let m = c.loop-m.m in
    let left = get_or c.loop-m.slots.ropes m None in
    let lt : m < SLOTS = omega (arith, c.loop-m-test.true, c.requires.end) in
    let inv = c.loop-m.invariant in
    let ensured = rw c.from.ensures at c.in_ok-rope.ensures in
    let spread = spread_join meaning c.loop-m.store c.join.new.store c.count-count.ensures.sound ensured.steps.grows.kept (length c.args.store.now.nodes + full_slots c.args.slots.now.ropes) (slots_cells (table_of meaning c.args.store.now) c.args.slots.now.ropes) m c.loop-m.slots.ropes c.loop-m.rope c.in_ok-rope.rope inv.spread lt ensured.join in
    record {
      gathered = gather_step meaning c.loop-m.store c.join.new.store ensured.steps.grows.kept m left c.loop-m.rope c.in_ok-rope.rope (inv.spread.are.each m) inv.gathered ensured.join;
      spread = rw c.from-in-loop-m.ensures spread;
      grows = grows_through inv.grows ensured.steps.grows (omega (arith, spread.nodes)) (omega (arith, ensured.steps.grows.few_bytes, inv.grows.few_bytes));
    }

pub returns-clause-steps : goal.returns-clause-steps
returns-clause-steps g c = record { grows = c.loop-m.invariant.grows; fault = tt; full = tt }

pub returns-clause-gathered : goal.returns-clause-gathered
returns-clause-gathered g c =
    let same : c.args.end ≡ c.loop-m.m = omega (arith, c.loop-m-test.false, c.loop-m.auto.m-end) in
    rw same c.loop-m.invariant.gathered

pub returns-clause-spread : goal.returns-clause-spread
returns-clause-spread g c =
    let same : c.args.end ≡ c.loop-m.m = omega (arith, c.loop-m-test.false, c.loop-m.auto.m-end) in
    rw same c.loop-m.invariant.spread
