use Rattle.std.proofs.Common.{◌≡◌, ◌≤◌, ◌∙◌, arith}
use Rattle.rope_node.specs.declared.node.NodeView.TheVariants.{Fun}
use Rattle.rope_node.specs.Table.{view_at}
use Rattle.node_table.specs.Held.{table_of}
use Rattle.rebalance.proofs.StoreCalls.{part_is, part_piece, part_steps}
use Rattle.rebalance.proofs.pieces.leaf_part.Goals.{in_default-via-in-Fun+else-len-lt-SHORTEST_PART, in_default-via-in_default}
use Rattle.rebalance.proofs.pieces.leaf_part.Goals as goal

pub returns-in_default-clause-steps : goal.returns-in_default-clause-steps
returns-in_default-clause-steps g c =
    let meaning = g.F.LeafFn.meaning in
    let t = table_of meaning c.args.store.now in
    let x = c.args in
    let long : view_at t x.leaf.0 ≡ Fun → 32 ≤ x.len = λ is. elim c.in_default.branch [
      | in_default-via-in-Fun+else-len-lt-SHORTEST_PART w ↦ omega (arith, w.if-len-lt-SHORTEST_PART.false)
      | in_default-via-in_default w ↦ absurd (w.in_default.not-Fun (c.node.ensures.view ∙ is))
    ] in
    let part = part_is t c.count-count.ensures.true_records x.leaf x.start x.len c.requires.there c.requires.some c.requires.inside c.requires.less c.requires.leaf long in
    part_steps meaning c.args.store.now c.substr.new.self x.len _ _ c.substr.result part c.substr.ensures.makes c.substr.ensures.refuses

pub returns-in_default-clause-piece : goal.returns-in_default-clause-piece
returns-in_default-clause-piece g c =
    let meaning = g.F.LeafFn.meaning in
    let t = table_of meaning c.args.store.now in
    let x = c.args in
    let long : view_at t x.leaf.0 ≡ Fun → 32 ≤ x.len = λ is. elim c.in_default.branch [
      | in_default-via-in-Fun+else-len-lt-SHORTEST_PART w ↦ omega (arith, w.if-len-lt-SHORTEST_PART.false)
      | in_default-via-in_default w ↦ absurd (w.in_default.not-Fun (c.node.ensures.view ∙ is))
    ] in
    let part = part_is t c.count-count.ensures.true_records x.leaf x.start x.len c.requires.there c.requires.some c.requires.inside c.requires.less c.requires.leaf long in
    part_piece meaning c.args.store.now c.substr.new.self x.len _ _ c.substr.result part c.requires.some c.substr.ensures.makes
