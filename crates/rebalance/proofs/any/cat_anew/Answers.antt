use Rattle.std.proofs.lemmas.Result.{err_from_is_err_and}
use Rattle.std.proofs.Common.{true, Ok, Err, arith}
use Rattle.node_table.specs.Held.{table_of}
use Rattle.rebalance.proofs.AnyCalls.{cat_called}
use Rattle.rebalance.proofs.PieceCounts.{all_pieces_kept}
use Rattle.rebalance.proofs.AnyLaws.{second_refused}
use Rattle.rebalance.proofs.any.cat_anew.Goals as goal

pub rebuild_rope-requires-2-clause-few : goal.rebuild_rope-requires-2-clause-few
rebuild_rope-requires-2-clause-few g c =
    let t = table_of g.F.LeafFn.meaning c.args.store.now in
    let t' = table_of g.F.LeafFn.meaning c.rebuild_rope.new.store in
    let few = (c.have_few_pieces.ensures.0 c.if-not-have_few_pieces.false).1 in
    rw (all_pieces_kept true t t' c.count-count.ensures.sound c.in_ok-left.ensures.kept c.args.r c.requires.right) few

pub returns-in_err-right : goal.returns-in_err-right
returns-in_err-right g c =
    let p = err_from_is_err_and c.from_residual-in_err-right.result c.from_residual-in_err-right.ensures.1 in
    rw (p.1, p.2) (second_refused g.F.LeafFn.meaning c.args.store.now c.rebuild_rope.new.store c.rebuild_rope-2.new.store _ _ _ _ c.args.r c.in_ok-left.left 2 31 c.in_err-right.field-0.0 (omega arith) c.count-count.ensures.sound c.requires.right (c.have_few_pieces.ensures.0 c.if-not-have_few_pieces.false).1 c.in_ok-left.ensures c.in_err-right.ensures)

pub returns-in_err-cat : goal.returns-in_err-cat
returns-in_err-cat g c =
    let p = err_from_is_err_and c.from_residual-in_err-cat.result c.from_residual-in_err-cat.ensures.1 in
    let first = c.count-count.ensures in
    let second = c.count-count-2.ensures in
    let third = c.count-count-3.ensures in
    rw (p.1, p.2) (cat_called g.F.LeafFn.meaning c.args.store.now c.rebuild_rope.new.store c.rebuild_rope-2.new.store c.cat.new.self c.args.l c.args.r c.in_ok-left.left c.in_ok-right.right (Err c.in_err-cat.field-0.0) (record { sound = first.sound; true_records = first.true_records })
    (record { sound = second.sound; true_records = second.true_records }) (record { sound = third.sound; true_records = third.true_records }) third.kept.pool c.requires.left c.requires.right c.requires.short c.in_ok-left.ensures c.in_ok-right.ensures c.in_err-cat.ensures.makes c.in_err-cat.ensures.refuses)

pub returns : goal.returns
returns g c =
    let first = c.count-count.ensures in
    let second = c.count-count-2.ensures in
    let third = c.count-count-3.ensures in
    cat_called g.F.LeafFn.meaning c.args.store.now c.rebuild_rope.new.store c.rebuild_rope-2.new.store c.cat.new.self c.args.l c.args.r c.in_ok-left.left c.in_ok-right.right (Ok c.in_ok-cat.field-0) (record { sound = first.sound; true_records = first.true_records })
    (record { sound = second.sound; true_records = second.true_records }) (record { sound = third.sound; true_records = third.true_records }) third.kept.pool c.requires.left c.requires.right c.requires.short c.in_ok-left.ensures c.in_ok-right.ensures c.in_ok-cat.ensures.makes c.in_ok-cat.ensures.refuses
