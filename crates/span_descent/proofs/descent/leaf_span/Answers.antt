use Rattle.std.proofs.Common.{◌≡◌, arith}
use Rattle.rope_node.specs.Table.{view_at}
use Rattle.span_descent.proofs.Stands.{found_leaf, no_leaf}
use Rattle.span_descent.proofs.descent.leaf_span.Goals as goal

pub returns-in-Leaf : goal.returns-in-Leaf
returns-in-Leaf g c =
    let t = g.S.CountedSpace.table c.args.space.now in
    let i = c.down.invariant in
    let view : c.look-view.result ≡ view_at t (g.W.Way.lies c.args.x c.down.here).node.0 = rw c.span-at.ensures at c.look-view.ensures.view in
    record {
      inside = rw c.span-at.ensures (record { there = i.on.stands.reached.is_span.there; inside = omega (arith, i.on.stands.reached.is_span.inside, i.long) });
      leads = rw c.span-at.ensures (found_leaf t c.requires.way.sound c.requires.way.true_records c.args.x (g.W.Way.lies c.args.x c.down.here) c.look-view.result c.requires.span i.on.stands i.long view c.in-Leaf.ensures.goes);
      way = c.in-Leaf.ensures.on.way;
      few = omega (arith, c.look-view.ensures.count, i.looks);
    }

pub returns-in-Border-clause-leads : goal.returns-in-Border-clause-leads
returns-in-Border-clause-leads g c =
    let t = g.S.CountedSpace.table c.args.space.now in
    let i = c.down.invariant in
    no_leaf t c.requires.way.sound c.requires.way.true_records c.args.x (g.W.Way.lies c.args.x c.down.here) c.look-view.result c.requires.span i.on.stands i.long (rw c.span-at.ensures at c.look-view.ensures.view) c.in-Border.ensures.goes
