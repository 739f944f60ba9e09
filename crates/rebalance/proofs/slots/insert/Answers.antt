use Rattle.std.proofs.Common.{◌≡◌, ◌∙◌, arith}
use Rattle.std.proofs.lemmas.Result.{err_from_is_err_and}
use Rattle.rope_node.specs.Denotes.{rope_cells, rope_len}
use Rattle.rope_node.proofs.Ropes.{rope_cells_kept, rope_kept}
use Rattle.node_table.specs.Held.{table_of}
use Rattle.rebalance.proofs.SlotSteps.{behind_short, first_carry, one_at_most, piece_kept, piece_len_kept, piece_shallow, spread_behind, spread_within}
use Rattle.rebalance.proofs.StepLaws.{grows_through, ok_map, refused_through, steps_after}
use Rattle.rebalance.proofs.slots.insert.Goals as goal

pub join-requires-clause-short : goal.join-requires-clause-short
join-requires-clause-short g c =
    let t0 = table_of g.F.LeafFn.meaning c.args.store.now in
    let t = table_of g.F.LeafFn.meaning c.join_below.new.store in
    let kept = c.in_ok-lower.ensures.steps.grows.kept in
    behind_short t c.count-count-2.ensures.sound c.count-count-2.ensures.true_records _ _ (rope_cells t0 c.args.piece) _ _ c.in_ok-lower.lower c.args.piece c.in_ok-lower.ensures.spread (rope_kept t0 t kept c.args.piece c.requires.piece.there)
    (rope_cells_kept t0 t c.count-count.ensures.sound kept c.args.piece c.requires.piece.there) c.requires.short

pub join-requires-clause-right_shallow : goal.join-requires-clause-right_shallow
join-requires-clause-right_shallow g c =
    let t0 = table_of g.F.LeafFn.meaning c.args.store.now in
    let t = table_of g.F.LeafFn.meaning c.join_below.new.store in
    piece_shallow t c.count-count-2.ensures.sound c.args.piece (piece_kept t0 t c.in_ok-lower.ensures.steps.grows.kept c.args.piece c.requires.piece)

pub returns-in_err-rope-clause-steps : goal.returns-in_err-rope-clause-steps
returns-in_err-rope-clause-steps g c =
    let p = err_from_is_err_and c.from_residual-in_err-rope.result c.from_residual-in_err-rope.ensures.1 in
    let spread = c.in_ok-lower.ensures.spread in
    let one = one_at_most c.args.piece in
    rw (p.1, p.2) (refused_through c.in_err-rope.field-0.0 c.in_ok-lower.ensures.steps.grows c.in_err-rope.ensures.steps (omega (arith, spread.nodes, one)) c.in_ok-lower.ensures.steps.grows.few_bytes)

pub settle-requires-clause-carried : goal.settle-requires-clause-carried
settle-requires-clause-carried g c =
    let meaning = g.F.LeafFn.meaning in
    let t0 = table_of meaning c.args.store.now in
    let t = table_of meaning c.join_below.new.store in
    let kept = c.in_ok-lower.ensures.steps.grows.kept in
    let len : rope_len t c.args.piece ≡ c.len.result = piece_len_kept t0 t kept c.args.piece c.requires.piece.there ∙ (omega (arith, c.len.ensures.exact)) in
    first_carry meaning c.join_below.new.store c.join.new.store c.slot_for-first.result c.in_ok-lower.lower c.args.piece c.in_ok-rope.rope c.in_ok-lower.ensures.gathered (piece_kept t0 t kept c.args.piece c.requires.piece) c.slot_for-first.ensures.some
    (omega (arith, len, c.slot_for-first.ensures.long)) (omega (arith, len, c.slot_for-first.ensures.short)) c.in_ok-rope.ensures.join

pub settle-requires-clause-short : goal.settle-requires-clause-short
settle-requires-clause-short g c =
    let meaning = g.F.LeafFn.meaning in
    let t0 = table_of meaning c.args.store.now in
    let t = table_of meaning c.join_below.new.store in
    let same = rope_cells_kept t0 t c.count-count.ensures.sound c.in_ok-lower.ensures.steps.grows.kept c.args.piece c.requires.piece.there in
    let spread = spread_behind meaning c.join_below.new.store c.join.new.store c.count-count-2.ensures.sound c.in_ok-rope.ensures.steps.grows.kept _ _ _ _ _ c.in_ok-lower.lower c.args.piece c.in_ok-rope.rope c.in_ok-lower.ensures.spread c.in_ok-rope.ensures.join same in
    rw spread.whole c.requires.short

pub returns-clause-steps : goal.returns-clause-steps
returns-clause-steps g c =
    let meaning = g.F.LeafFn.meaning in
    let t0 = table_of meaning c.args.store.now in
    let t = table_of meaning c.join_below.new.store in
    let lower = c.in_ok-lower.ensures.steps.grows in
    let joined = c.in_ok-rope.ensures.steps.grows in
    let same = rope_cells_kept t0 t c.count-count.ensures.sound lower.kept c.args.piece c.requires.piece.there in
    let spread = spread_behind meaning c.join_below.new.store c.join.new.store c.count-count-2.ensures.sound joined.kept _ _ _ _ _ c.in_ok-lower.lower c.args.piece c.in_ok-rope.rope c.in_ok-lower.ensures.spread c.in_ok-rope.ensures.join same in
    steps_after c.settle.result (grows_through lower joined joined.few_nodes joined.few_bytes) c.settle.ensures.steps (omega (arith, spread.nodes)) (omega (arith, joined.few_bytes, lower.few_bytes))

pub returns-clause-spread : goal.returns-clause-spread
returns-clause-spread g c =
    let meaning = g.F.LeafFn.meaning in
    let t0 = table_of meaning c.args.store.now in
    let t = table_of meaning c.join_below.new.store in
    let lower = c.in_ok-lower.ensures.steps.grows in
    let joined = c.in_ok-rope.ensures.steps.grows in
    let same = rope_cells_kept t0 t c.count-count.ensures.sound lower.kept c.args.piece c.requires.piece.there in
    let spread = spread_behind meaning c.join_below.new.store c.join.new.store c.count-count-2.ensures.sound joined.kept _ _ _ _ _ c.in_ok-lower.lower c.args.piece c.in_ok-rope.rope c.in_ok-lower.ensures.spread c.in_ok-rope.ensures.join same in
    ok_map c.settle.result (λ u s. spread_within (table_of meaning c.settle.new.store) _ _ _ _ 0 c.settle.new.slots.ropes _ s (omega (arith, spread.nodes)) spread.whole) c.settle.ensures.spread
