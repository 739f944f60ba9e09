use Rattle.std.proofs.Common.{◌≡◌, subst, sym, arith}
use Rattle.rope_node.specs.Table.{len_at, IsLeaf}
use Rattle.rope_node.proofs.Paths.{is_leaf_of}
use Rattle.node_table.specs.Held.{table_of}
use Rattle.rebalance.proofs.PieceWays.{lower_down, lower_is_cut, lower_is_leaf, lower_is_whole, lower_left, lower_right}
use Rattle.rebalance.proofs.any.lowest.Goals as goal

pub down-preserved-then-left-place : goal.down-preserved-then-left-place
down-preserved-then-left-place g c =
    let t = table_of g.F.LeafFn.meaning c.args.store.now in
    let k = c.count-count.ensures in
    let value : c.left_len-left.result ≡ len_at t c.in-Cat.l.0 = c.left_len-left.ensures.value in
    rw value (lower_right t k.sound k.true_records c.args.node.0 c.args.start c.args.len c.down.below.0 c.down.place c.in-Cat.l c.in-Cat.r (sym c.in-Cat.ensures.view) (omega (arith, c.if-len.false, c.len.ensures.value, c.down.invariant.inside)) (omega (arith, value, c.if-left-place.true)) c.down.invariant)

pub down-preserved-then-len-left : goal.down-preserved-then-len-left
down-preserved-then-len-left g c =
    let t = table_of g.F.LeafFn.meaning c.args.store.now in
    let k = c.count-count.ensures in
    let value : c.left_len-left.result ≡ len_at t c.in-Cat.l.0 = c.left_len-left.ensures.value in
    lower_left t k.sound k.true_records c.args.node.0 c.args.start c.args.len c.down.below.0 c.down.place c.in-Cat.l c.in-Cat.r (sym c.in-Cat.ensures.view) (omega (arith, c.if-len.false, c.len.ensures.value, c.down.invariant.inside)) (omega (arith, value, c.if-left-place.false, c.if-len-left.true)) c.down.invariant

pub down-preserved : goal.down-preserved
down-preserved g c =
    let t = table_of g.F.LeafFn.meaning c.args.store.now in
    let k = c.count-count.ensures in
    lower_down t k.sound k.true_records c.args.node.0 c.args.start c.args.len c.down.below.0 c.down.place c.in-Sub.b c.in-Sub.i (sym c.in-Sub.ensures.view) (omega (arith, c.if-len.false, c.len.ensures.value, c.down.invariant.inside)) c.down.invariant

pub returns-then-len : goal.returns-then-len
returns-then-len g c =
    let t = table_of g.F.LeafFn.meaning c.args.store.now in
    lower_is_whole t c.args.node.0 c.args.start c.args.len c.down.below c.down.place (omega (arith, c.if-len.true, c.len.ensures.value, c.down.invariant.inside)) c.down.invariant

pub returns-else-len-left : goal.returns-else-len-left
returns-else-len-left g c =
    let t = table_of g.F.LeafFn.meaning c.args.store.now in
    let value : c.left_len-left.result ≡ len_at t c.in-Cat.l.0 = c.left_len-left.ensures.value in
    lower_is_cut t c.args.node.0 c.args.start c.args.len c.down.below c.down.place c.in-Cat.l c.in-Cat.r (sym c.in-Cat.ensures.view) (omega (arith, value, c.if-left-place.false)) (omega (arith, value, c.if-left-place.false, c.if-len-left.false)) c.down.invariant

pub returns-in-Lit : goal.returns-in-Lit
returns-in-Lit g c =
    let t = table_of g.F.LeafFn.meaning c.args.store.now in
    let leaf = subst IsLeaf c.node.ensures.view (is_leaf_of c.node.result c.in-Lit.is) in
    lower_is_leaf t c.args.node.0 c.args.start c.args.len c.down.below c.down.place leaf c.down.invariant
