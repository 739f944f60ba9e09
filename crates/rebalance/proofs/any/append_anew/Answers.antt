use Rattle.std.proofs.Common.{Ok, Err}
use Rattle.std.proofs.lemmas.Result.{err_from_is_err_and}
use Rattle.rebalance.proofs.AnyCalls.{append_called, put_behind}
use Rattle.rebalance.proofs.any.append_anew.Goals as goal

pub returns-in_err-longer-clause-anew : goal.returns-in_err-longer-clause-anew
returns-in_err-longer-clause-anew g c =
    let p = err_from_is_err_and c.from_residual-in_err-longer.result c.from_residual-in_err-longer.ensures.1 in
    let first = c.count-count.ensures in
    let second = c.count-count-2.ensures in
    rw (p.1, p.2) (append_called g.F.LeafFn.meaning c.args.store.now c.balance_by.new.store c.append.new.self c.args.x c.in_ok-rope.rope c.args.bytes.now (Err c.in_err-longer.field-0.0) (record { sound = first.sound; true_records = first.true_records })
    (record { sound = second.sound; true_records = second.true_records }) second.kept.pool c.requires.there c.requires.short c.in_ok-rope.ensures c.in_err-longer.ensures)

pub returns-clause-anew : goal.returns-clause-anew
returns-clause-anew g c =
    let first = c.count-count.ensures in
    let second = c.count-count-2.ensures in
    append_called g.F.LeafFn.meaning c.args.store.now c.balance_by.new.store c.append.new.self c.args.x c.in_ok-rope.rope c.args.bytes.now (Ok c.in_ok-longer.longer) (record { sound = first.sound; true_records = first.true_records })
    (record { sound = second.sound; true_records = second.true_records }) second.kept.pool c.requires.there c.requires.short c.in_ok-rope.ensures c.in_ok-longer.ensures

pub returns-clause-place : goal.returns-clause-place
returns-clause-place g c =
    let k = c.count-count-2.ensures in
    put_behind g.F.LeafFn.meaning c.args.store.now c.balance_by.new.store c.append.new.self c.in_ok-rope.rope c.in_ok-longer.longer c.args.bytes.now c.next_place-place.result c.in_ok-rope.ensures.kept (record { sound = k.sound; true_records = k.true_records }) c.in_ok-rope.ensures.is_rope c.in_ok-longer.ensures c.next_place-place.ensures.none c.next_place-place.ensures.some
