use Rattle.std.proofs.Common.{◌≡◌, ◌+◌, ◌++◌, ◌<◌, ◌≤◌, None, length, get_or, refl, ◌∙◌, arith}
use Rattle.std.proofs.lemmas.List.{get_or-set_other}
use Rattle.std.proofs.lemmas.Result.{err_from_is_err_and}
use Rattle.rope_node.specs.Balance.{fibonacci}
use Rattle.rope_node.specs.Denotes.{rope_cells, rope_len}
use Rattle.node_table.specs.Held.{table_of}
use Rattle.rebalance.specs.Slots.{full_slots, ropes_in, slots_cells}
use Rattle.rebalance.proofs.SlotLists.{slot_rope}
use Rattle.rebalance.proofs.SlotSteps.{both_short, carried_fits, carried_inside, carry_step, none_of, not_none, room_for, slot_shallow, spread_join, spread_put}
use Rattle.rebalance.proofs.StepLaws.{grows_itself, grows_through, refused_through}
use Rattle.rebalance.proofs.slots.settle.Goals.{else-is_none-via-then-is_none+else-len-fibonacci, else-is_none-via-else-is_none}
use Rattle.rebalance.proofs.slots.settle.Goals as goal

pub loop-store-init : goal.loop-store-init
loop-store-init g c = record {
  carried = c.requires.carried;
  spread = record { are = c.requires.slots; empty = c.requires.empty; is_rope = c.requires.there; whole = refl; nodes = omega arith };
  grows = grows_itself g.F.LeafFn.meaning c.args.store.now _ _ (omega arith) (omega arith);
}

pub bounds-slots-from : goal.bounds-slots-from
bounds-slots-from g c =
    let inv = c.loop-store.invariant in
    let inside = carried_inside (table_of g.F.LeafFn.meaning c.loop-store.store) c.count-count.ensures.sound c.loop-store.slot c.loop-store.rope inv.spread.is_rope inv.carried in
    omega (arith, c.from.ensures, inside, inv.spread.are.size)

pub len-requires : goal.len-requires
len-requires g c = c.loop-store.invariant.spread.is_rope

pub overflow_add-slot : goal.overflow_add-slot
overflow_add-slot g c =
    let inv = c.loop-store.invariant in
    let inside = carried_inside (table_of g.F.LeafFn.meaning c.loop-store.store) c.count-count.ensures.sound c.loop-store.slot c.loop-store.rope inv.spread.is_rope inv.carried in
    omega (arith, inside)

pub fibonacci-requires : goal.fibonacci-requires
fibonacci-requires g c =
    let inv = c.loop-store.invariant in
    let inside = carried_inside (table_of g.F.LeafFn.meaning c.loop-store.store) c.count-count.ensures.sound c.loop-store.slot c.loop-store.rope inv.spread.is_rope inv.carried in
    omega (arith, inside)

pub bounds-slots-from-then-len-fibonacci : goal.bounds-slots-from-then-len-fibonacci
bounds-slots-from-then-len-fibonacci g c =
    let inv = c.loop-store.invariant in
    let inside = carried_inside (table_of g.F.LeafFn.meaning c.loop-store.store) c.count-count.ensures.sound c.loop-store.slot c.loop-store.rope inv.spread.is_rope inv.carried in
    omega (arith, c.from-then-len-fibonacci.ensures, inside, inv.spread.are.size)

pub returns-then-len-fibonacci-clause-steps : goal.returns-then-len-fibonacci-clause-steps
returns-then-len-fibonacci-clause-steps g c = record { grows = c.loop-store.invariant.grows; fault = tt; full = tt }

pub returns-then-len-fibonacci-clause-spread : goal.returns-then-len-fibonacci-clause-spread
returns-then-len-fibonacci-clause-spread g c =
    let inv = c.loop-store.invariant in
    let t = table_of g.F.LeafFn.meaning c.loop-store.store in
    let m = c.loop-store.slot in
    let rope = c.loop-store.rope in
    let inside = carried_inside t c.count-count.ensures.sound m rope inv.spread.is_rope inv.carried in
    let none : get_or c.loop-store.slots.ropes m None ≡ None = none_of _ (rw c.from.ensures at c.if-is_none.ensures) in
    let short : rope_len t rope < fibonacci (m + 1) = omega (arith, c.len.ensures.exact, c.fibonacci.ensures, c.if-len-fibonacci.true) in
    rw c.from-then-len-fibonacci.ensures (spread_put t _ _ m c.loop-store.slots.ropes rope inv.spread inside none (carried_fits t m rope inv.spread.is_rope inv.carried short))

pub returns-then-len-fibonacci-clause-empty : goal.returns-then-len-fibonacci-clause-empty
returns-then-len-fibonacci-clause-empty g c =
    let m = c.loop-store.slot in
    rw c.from-then-len-fibonacci.ensures (λ i lt. get_or-set_other c.loop-store.slots.ropes m i c.loop-store.rope None (λ e. absurd (omega (arith, lt, e))) ∙ c.loop-store.invariant.spread.empty i lt)

pub join-requires-clause-left : goal.join-requires-clause-left
join-requires-clause-left g c =
    let t = table_of g.F.LeafFn.meaning c.loop-store.store in
    rw c.from.ensures (slot_rope t c.loop-store.slot _ (c.loop-store.invariant.spread.are.each c.loop-store.slot))

pub join-requires-clause-right : goal.join-requires-clause-right
join-requires-clause-right g c = c.loop-store.invariant.spread.is_rope

pub join-requires-clause-left_shallow : goal.join-requires-clause-left_shallow
join-requires-clause-left_shallow g c =
    let inv = c.loop-store.invariant in
    let t = table_of g.F.LeafFn.meaning c.loop-store.store in
    let inside = carried_inside t c.count-count.ensures.sound c.loop-store.slot c.loop-store.rope inv.spread.is_rope inv.carried in
    rw c.from.ensures (slot_shallow t c.loop-store.slot _ (inv.spread.are.each c.loop-store.slot) inside)

pub join-requires-clause-right_shallow : goal.join-requires-clause-right_shallow
join-requires-clause-right_shallow g c =
    let inv = c.loop-store.invariant in
    let inside = carried_inside (table_of g.F.LeafFn.meaning c.loop-store.store) c.count-count.ensures.sound c.loop-store.slot c.loop-store.rope inv.spread.is_rope inv.carried in
    omega (arith, inv.carried.shallow, inside)

pub join-requires-clause-short : goal.join-requires-clause-short
join-requires-clause-short g c =
    let inv = c.loop-store.invariant in
    let t = table_of g.F.LeafFn.meaning c.loop-store.store in
    let inside = carried_inside t c.count-count.ensures.sound c.loop-store.slot c.loop-store.rope inv.spread.is_rope inv.carried in
    rw c.from.ensures (both_short t c.count-count.ensures.sound c.count-count.ensures.true_records _ _ c.loop-store.slot c.loop-store.slots.ropes c.loop-store.rope inv.spread inside c.requires.short)

pub returns-in_err-rope-clause-steps : goal.returns-in_err-rope-clause-steps
returns-in_err-rope-clause-steps g c =
    let inv = c.loop-store.invariant in
    let t = table_of g.F.LeafFn.meaning c.loop-store.store in
    let p = err_from_is_err_and c.from_residual.result c.from_residual.ensures.1 in
    let inside = carried_inside t c.count-count.ensures.sound c.loop-store.slot c.loop-store.rope inv.spread.is_rope inv.carried in
    let steps = rw c.from.ensures at c.in_err-rope.ensures.steps in
    let room = room_for t _ _ c.loop-store.slot c.loop-store.slots.ropes c.loop-store.rope inv.spread inside in
    rw (p.1, p.2) (refused_through c.in_err-rope.field-0.0 inv.grows steps room inv.grows.few_bytes)

pub bounds-slots-from-in-loop-store : goal.bounds-slots-from-in-loop-store
bounds-slots-from-in-loop-store g c =
    let inv = c.loop-store.invariant in
    let inside = carried_inside (table_of g.F.LeafFn.meaning c.loop-store.store) c.count-count.ensures.sound c.loop-store.slot c.loop-store.rope inv.spread.is_rope inv.carried in
    omega (arith, c.from-in-loop-store.ensures, inside, inv.spread.are.size)

pub overflow_add-slot-in-loop-store : goal.overflow_add-slot-in-loop-store
overflow_add-slot-in-loop-store g c =
    let inv = c.loop-store.invariant in
    let inside = carried_inside (table_of g.F.LeafFn.meaning c.loop-store.store) c.count-count.ensures.sound c.loop-store.slot c.loop-store.rope inv.spread.is_rope inv.carried in
    omega (arith, inside)

pub loop-store-smaller : goal.loop-store-smaller
loop-store-smaller g c =
    let inv = c.loop-store.invariant in
    let inside = carried_inside (table_of g.F.LeafFn.meaning c.loop-store.store) c.count-count.ensures.sound c.loop-store.slot c.loop-store.rope inv.spread.is_rope inv.carried in
    omega (arith, inside)

pub loop-store-preserved : goal.loop-store-preserved
loop-store-preserved g c =
    let meaning = g.F.LeafFn.meaning in
    let inv = c.loop-store.invariant in
    let t = table_of meaning c.loop-store.store in
    let m = c.loop-store.slot in
    let rope = c.loop-store.rope in
    let left = get_or c.loop-store.slots.ropes m None in
    let inside = carried_inside t c.count-count.ensures.sound m rope inv.spread.is_rope inv.carried in
    let ensured = rw c.from.ensures at c.in_ok-rope.ensures in
    let long : left ≡ None → fibonacci (m + 1) ≤ rope_len t rope = λ none. elim c.else-is_none.branch [
      | else-is_none-via-then-is_none+else-len-fibonacci w ↦ omega (arith, w.len.ensures.exact, w.fibonacci.ensures, w.if-len-fibonacci.false)
      | else-is_none-via-else-is_none w ↦ absurd (not_none left (rw c.from.ensures at w.if-is_none.ensures) none)
    ] in
    let most = length c.args.store.now.nodes + (full_slots c.args.slots.now.ropes + ropes_in c.args.carried) in
    let whole = slots_cells (table_of meaning c.args.store.now) c.args.slots.now.ropes ++ rope_cells (table_of meaning c.args.store.now) c.args.carried in
    let spread = spread_join meaning c.loop-store.store c.join.new.store c.count-count.ensures.sound ensured.steps.grows.kept most whole m c.loop-store.slots.ropes rope c.in_ok-rope.rope inv.spread inside ensured.join in
    record {
      carried = carry_step meaning c.loop-store.store c.join.new.store m left rope c.in_ok-rope.rope (inv.spread.are.each m) inv.carried long ensured.join;
      spread = rw c.from-in-loop-store.ensures spread;
      grows = grows_through inv.grows ensured.steps.grows (omega (arith, spread.nodes)) (omega (arith, ensured.steps.grows.few_bytes, inv.grows.few_bytes));
    }
