use Rattle.std.proofs.Common.{◌≡◌, ◌-◌, ◌∙◌, Option, Some, ap, arith, min, subst, sym}
use Rattle.std.proofs.lemmas.Option.{same_Some}
use Rattle.rope_node.specs.declared.node.NodeId.{NodeId}
use Rattle.rope_node.specs.Table.{len_at}
use Rattle.rope_node.specs.Denotes.{IsRope}
use Rattle.node_table.specs.Held.{table_of}
use Rattle.rebalance.specs.AnyForms.{PartsAny, lifted}
use Rattle.rebalance.proofs.AnyCalls.{part_more, part_none}
use Rattle.rebalance.proofs.any.substr_any.Goals as goal
use Rattle.rebalance.proofs.any.substr_any.Goals.{in-Some+else-len-gt0, in_default}

pub returns-then-len-gt0 : goal.returns-then-len-gt0
returns-then-len-gt0 g c =
    let t = table_of g.F.LeafFn.meaning c.args.store.now in
    let k = c.count-count.ensures in
    let node = c.in-Some.node in
    let there = rw c.in-Some.is at c.requires in
    let least : c.min-len.result ≡ min c.args.n (len_at t node.0 - c.args.i) = c.min-len.ensures ∙ ap (min c.args.n) c.saturating_sub-rest.ensures ∙ ap (λ m. min c.args.n (m - c.args.i)) c.len.ensures.value in
    rw c.in-Some.is (part_more g.F.LeafFn.meaning c.args.store.now c.part_any.new.store node c.args.i c.args.n c.min-len.result c.part_any.result k.sound k.true_records there least c.part_any.ensures)

pub returns : goal.returns
returns g c =
    let meaning = g.F.LeafFn.meaning in
    let old = c.args.store.now in
    let t = table_of meaning old in
    let x = c.match-x.x in
    let i = c.args.i in
    let n = c.args.n in
    let same : x ≡ c.args.x = elim c.match-x.branch [ in-Some+else-len-gt0 w ↦ w.x-is ∙ sym w.in-Some.is | in_default w ↦ w.x-is ] in
    let none : (node : NodeId) → x ≡ Some node → min n (len_at t node.0 - i) ≡ 0 = λ node is.
    elim c.match-x.branch [
      | in-Some+else-len-gt0 w ↦
          let least : w.min-len.result ≡ min n (len_at t w.in-Some.node.0 - i) = w.min-len.ensures ∙ ap (min n) w.saturating_sub-rest.ensures ∙ ap (λ m. min n (m - i)) w.len.ensures.value in
          let of_it : min n (len_at t w.in-Some.node.0 - i) ≡ 0 = omega (arith, least, w.if-len-gt0.false) in
          subst (λ (y : NodeId). min n (len_at t y.0 - i) ≡ 0) (same_Some w.in-Some.node node (sym w.x-is ∙ is)) of_it
      | in_default w ↦ absurd (w.in_default.not-Some node (sym w.x-is ∙ is))
    ] in
    let there = subst (IsRope t) (sym same) c.requires in
    let all = part_none meaning old c.substr.new.self x i n c.substr.result c.count-count.ensures.kept.pool there none c.substr.ensures.makes c.substr.ensures.refuses in
    rw c.lift.ensures (subst (λ (y : Option NodeId). PartsAny meaning old y i n (lifted c.substr.result) c.substr.new.self) same all)
