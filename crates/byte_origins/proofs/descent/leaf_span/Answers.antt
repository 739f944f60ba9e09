use Rattle.std.proofs.Common.{sym, ◌∙◌}
use Rattle.rope_node.proofs.FirstLeaves.{first_of_child, first_of_leaf}
use Rattle.byte_origins.proofs.LeafSpanSteps.{begins_way}
use Rattle.byte_origins.proofs.descent.leaf_span.Goals as goal

pub down-init : goal.down-init
down-init g c =
    rw c.len.ensures.value (begins_way (g.S.NodeSpace.table c.args.space.now) c.len.ensures.sound c.len.ensures.true_records c.args.node c.args.place c.requires.there c.requires.inside)

pub down-preserved : goal.down-preserved
down-preserved g c =
    let way = c.down.invariant in
    let below = c.in-Below.ensures in
    record {
      is_span = below.cells.is_span;
      first = first_of_child (g.S.NodeSpace.table c.args.space.now) c.node-view.ensures.sound c.node-view.ensures.true_records c.down.here c.in-Below.below c.node-view.result way.is_span (sym c.node-view.ensures.view) below.child ∙ way.first;
    }

pub returns-in-Leaf : goal.returns-in-Leaf
returns-in-Leaf g c =
    let way = c.down.invariant in
    first_of_leaf (g.S.NodeSpace.table c.args.space.now) c.node-view.ensures.sound c.down.here c.node-view.result way.is_span c.node-view.ensures.view c.in-Leaf.ensures ∙ way.first
