use Rattle.std.proofs.Common.{arith}
use Rattle.span_descent.proofs.Stands.{leaf_stands}
use Rattle.span_descent.proofs.descent.first_leaf.Goals as goal

pub returns-in-Leaf : goal.returns-in-Leaf
returns-in-Leaf g c =
    let t = g.S.CountedSpace.table c.args.space.now in
    let i = c.down.invariant in
    record {
      leaf = rw c.span-span.ensures (leaf_stands t c.requires.way.sound c.requires.way.true_records c.args.x (g.W.Way.lies c.args.x c.down.here) c.look-view.result i.on.stands (rw c.span-span.ensures at c.look-view.ensures.view) c.in-Leaf.ensures.goes);
      way = c.in-Leaf.ensures.on.way;
      few = omega (arith, c.look-view.ensures.count, i.looks);
    }
