use Rattle.std.proofs.Common.{◌≡◌, Ok, Err, sym, subst, ◌∙◌}
use Rattle.std.proofs.lemmas.Result.{err_from_is_err_and}
use Rattle.rope_store.specs.Appending.{Appends}
use Rattle.rebalance.specs.AnyForms.{AppendsAny, lifted}
use Rattle.rebalance.proofs.AnyCalls.{append_plain, placed_at_once}
use Rattle.rebalance.proofs.AnyLaws.{lifted_is_ok, not_true}
use Rattle.rebalance.proofs.any.append_any.Goals as goal

pub returns-in_err-rope-clause-any : goal.returns-in_err-rope-clause-any
returns-in_err-rope-clause-any g c =
    let meaning = g.F.LeafFn.meaning in
    let k = c.count-count.ensures in
    let p = err_from_is_err_and c.from_residual.result c.from_residual.ensures.1 in
    let is : lifted c.append-plain.result ≡ Err c.in_err-rope.field-0.0 = sym c.lift.ensures ∙ c.in_err-rope.was in
    let all = append_plain meaning c.args.store.now c.append-plain.new.self c.args.x c.args.bytes.now c.append-plain.result (record { sound = k.sound; true_records = k.true_records }) k.kept.pool c.requires c.append-plain.ensures (λ e. not_true (c.if-is_too_deep.ensures.1 e)) in
    rw (p.1, p.2) (subst (λ r. AppendsAny meaning c.args.store.now c.args.x c.args.bytes.now r c.append-plain.new.self) is all)

pub returns-clause-any : goal.returns-clause-any
returns-clause-any g c =
    let meaning = g.F.LeafFn.meaning in
    let k = c.count-count.ensures in
    let is : lifted c.append-plain.result ≡ Ok c.in_ok-rope.rope = sym c.lift.ensures ∙ c.in_ok-rope.was in
    let all = append_plain meaning c.args.store.now c.append-plain.new.self c.args.x c.args.bytes.now c.append-plain.result (record { sound = k.sound; true_records = k.true_records }) k.kept.pool c.requires c.append-plain.ensures (λ e. not_true (c.if-is_too_deep.ensures.1 e)) in
    subst (λ r. AppendsAny meaning c.args.store.now c.args.x c.args.bytes.now r c.append-plain.new.self) is all

pub returns-clause-place : goal.returns-clause-place
returns-clause-place g c =
    let meaning = g.F.LeafFn.meaning in
    let k = c.count-count.ensures in
    let is : c.append-plain.result ≡ Ok c.in_ok-rope.rope = lifted_is_ok c.append-plain.result c.in_ok-rope.rope (sym c.lift.ensures ∙ c.in_ok-rope.was) in
    let done = subst (λ r. Appends meaning c.args.store.now c.args.x c.args.bytes.now r c.append-plain.new.self) is c.append-plain.ensures in
    placed_at_once meaning c.args.store.now c.append-plain.new.self c.args.x c.in_ok-rope.rope c.args.bytes.now c.next_place-place.result (record { sound = k.sound; true_records = k.true_records }) c.requires done c.next_place-place.ensures.none c.next_place-place.ensures.some
