use Rattle.node_table.specs.Held.{table_of}
use Rattle.rebalance.specs.Pieces.{cells_in_span}
use Rattle.rebalance.proofs.Filling.{fills_piece, piece_text}
use Rattle.rebalance.proofs.balancing.put.Goals as goal

pub insert-requires-clause-short : goal.insert-requires-clause-short
insert-requires-clause-short g c =
    let meaning = g.F.LeafFn.meaning in
    let p = c.in_ok-rope.ensures in
    rw (piece_text meaning c.args.store.now c.piece.new.store c.args.slots.now.ropes c.in_ok-rope.rope (cells_in_span (table_of meaning c.args.store.now) c.args.span) _ _ c.count-count.ensures.sound c.requires.slots p.steps.grows p.text) c.requires.short

pub returns-clause-fills : goal.returns-clause-fills
returns-clause-fills g c =
    let meaning = g.F.LeafFn.meaning in
    let p = c.in_ok-rope.ensures in
    fills_piece meaning c.args.store.now c.piece.new.store c.insert.new.store c.args.slots.now.ropes c.insert.new.slots.ropes c.in_ok-rope.rope (cells_in_span (table_of meaning c.args.store.now) c.args.span) c.insert.result c.count-count.ensures.sound c.requires.slots
    p.steps.grows p.text c.insert.ensures.steps c.insert.ensures.spread
