use Rattle.std.proofs.Common.{◌≡◌, ◌+◌, sym, ap, ◌∙◌, arith}
use Rattle.rope_node.specs.declared.node.LeafSpan.{LeafSpan}
use Rattle.rope_node.specs.Table.{len_at}
use Rattle.rope_node.specs.Path.{rest_of, span_at, visits}
use Rattle.rope_node.proofs.LeafSpans.{rest_at}
use Rattle.rope_node.proofs.Visits.{visits-le}
use Rattle.rope_node.proofs.Paths.{goes_below, seen_few, visits_leaf}
use Rattle.rope_node.proofs.path.find_leaf.Goals as goal

pub overflow_add-visits : goal.overflow_add-visits
overflow_add-visits g c =
    let few = seen_few (g.S.NodeSpace.table c.args.space.now) c.node-view.ensures.sound c.node-view.ensures.true_records c.args.node.0 c.args.place c.down.here c.down.visits c.requires.there c.down.invariant in
    omega (arith, few)

pub down-preserved : goal.down-preserved
down-preserved g c =
    goes_below (g.S.NodeSpace.table c.args.space.now) c.node-view.ensures.sound c.node-view.ensures.true_records c.args.node.0 c.args.place c.down.here c.in-Below.below c.node-view.result c.down.visits
    c.node-view.ensures.view c.in-Below.ensures c.down.invariant

pub returns-in-Leaf : goal.returns-in-Leaf
returns-in-Leaf g c =
    let t = g.S.NodeSpace.table c.args.space.now in
    let path = c.down.invariant in
    let here = c.down.here in
    let leaf = c.in-Leaf.ensures in
    let one = visits_leaf t c.node-view.ensures.sound here.node.0 here.start path.is_span.there c.node-view.result c.node-view.ensures.view leaf in
    let rest : span_at t here.node.0 here.start ≡ rest_of here.node.0 here.start (len_at t here.node.0) =
    rest_at t c.node-view.ensures.sound here.node.0 here.start path.is_span.there c.node-view.result (sym c.node-view.ensures.view) leaf in
    let all : c.down.visits + 1 ≡ visits t c.args.node.0 c.args.place = omega (arith, one, path.count) in
    record {
      there = path.is_span.there;
      inside = omega (arith, path.is_span.inside, path.one);
      leaf = rw (← c.node-view.ensures.view) leaf;
      place = record {
        leaf = ap (λ (z : LeafSpan). z.leaf) (sym rest) ∙ ap (λ (z : LeafSpan). z.leaf) path.first;
        start = ap (λ (z : LeafSpan). z.start) (sym rest) ∙ ap (λ (z : LeafSpan). z.start) path.first;
      };
      cell = path.cell;
      visits = all;
      few = omega (arith, all, visits-le t c.node-view.ensures.sound c.node-view.ensures.true_records c.args.node.0 c.args.place c.requires.there);
    }
