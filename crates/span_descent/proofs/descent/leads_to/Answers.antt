use Rattle.std.proofs.Common.{◌≡◌, refl, arith, inl, inr}
use Rattle.rope_node.specs.Table.{view_at}
use Rattle.span_descent.proofs.Stands.{leads_below, leads_from, leads_here, leads_nowhere}
use Rattle.span_descent.proofs.Steps.{child_below}
use Rattle.span_descent.proofs.OnePlace.{away_of}
use Rattle.span_descent.proofs.descent.leads_to.Goals as goal

pub down-init : goal.down-init
down-init g c =
    let begun = c.begin-here.ensures in
    record {
      on = begun.on;
      looks = omega (arith, (c.requires.way.sound.nodes (g.W.Way.lies c.args.x c.begin-here.result).node.0 begun.on.stands.reached.is_span.there).not_deep);
      long = begun.long;
      forth = leads_from (g.S.CountedSpace.table c.args.space.now) c.requires.way.sound c.requires.way.true_records c.args.node.0 c.args.at c.args.x (g.W.Way.lies c.args.x c.begin-here.result) c.requires.span begun.on.stands begun.long begun.low;
    }

pub down-preserved : goal.down-preserved
down-preserved g c =
    let t = g.S.CountedSpace.table c.args.space.now in
    let i = c.down.invariant in
    let view : c.look-view.result ≡ view_at t (g.W.Way.lies c.args.x c.down.here).node.0 = rw c.span-there.ensures at c.look-view.ensures.view in
    let below = child_below t c.requires.way.sound c.requires.way.true_records (g.W.Way.lies c.args.x c.down.here) (g.W.Way.lies c.args.x c.in-Below.below) c.look-view.result i.on.stands.reached.is_span view c.in-Below.ensures.goes.0 in
    let away = away_of (g.W.Way.lies c.args.x c.down.here).node.0 c.args.node.0 (g.W.Way.lies c.args.x c.down.here).start c.args.at (rw c.span-there.ensures at c.else-there-node.either) in
    record {
      on = c.in-Below.ensures.on;
      looks = omega (arith, c.look-view.ensures.count, i.looks, below.shallower);
      long = c.in-Below.ensures.goes.1;
      forth = λ lead. leads_below t c.requires.way.sound c.requires.way.true_records c.args.node.0 c.args.at c.args.x.len (g.W.Way.lies c.args.x c.down.here) (g.W.Way.lies c.args.x c.in-Below.below) c.look-view.result c.requires.span.some away view c.in-Below.ensures.goes.0 (i.forth lead);
    }

pub returns-in-Leaf-clause-leads : goal.returns-in-Leaf-clause-leads
returns-in-Leaf-clause-leads g c =
    let t = g.S.CountedSpace.table c.args.space.now in
    let i = c.down.invariant in
    let view : c.look-view.result ≡ view_at t (g.W.Way.lies c.args.x c.down.here).node.0 = rw c.span-there.ensures at c.look-view.ensures.view in
    let away = away_of (g.W.Way.lies c.args.x c.down.here).node.0 c.args.node.0 (g.W.Way.lies c.args.x c.down.here).start c.args.at (rw c.span-there.ensures at c.else-there-node.either) in
    (λ e. absurd cc, λ lead. absurd (leads_nowhere t c.requires.way.sound c.requires.way.true_records c.args.node.0 c.args.at c.args.x.len (g.W.Way.lies c.args.x c.down.here) c.look-view.result away view (inl c.in-Leaf.ensures.goes) (i.forth lead)))

pub returns-in-Border-clause-leads : goal.returns-in-Border-clause-leads
returns-in-Border-clause-leads g c =
    let t = g.S.CountedSpace.table c.args.space.now in
    let i = c.down.invariant in
    let view : c.look-view.result ≡ view_at t (g.W.Way.lies c.args.x c.down.here).node.0 = rw c.span-there.ensures at c.look-view.ensures.view in
    let away = away_of (g.W.Way.lies c.args.x c.down.here).node.0 c.args.node.0 (g.W.Way.lies c.args.x c.down.here).start c.args.at (rw c.span-there.ensures at c.else-there-node.either) in
    (λ e. absurd cc, λ lead. absurd (leads_nowhere t c.requires.way.sound c.requires.way.true_records c.args.node.0 c.args.at c.args.x.len (g.W.Way.lies c.args.x c.down.here) c.look-view.result away view (inr c.in-Border.ensures.goes) (i.forth lead)))

pub returns-then-there-at-clause-leads : goal.returns-then-there-at-clause-leads
returns-then-there-at-clause-leads g c = (
  λ _. leads_here (g.S.CountedSpace.table c.args.space.now) c.requires.way.sound c.requires.way.true_records c.args.node.0 c.args.at c.args.x (g.W.Way.lies c.args.x c.down.here) c.down.invariant.on.stands c.down.invariant.long
      (rw c.span-there.ensures at c.if-there-node.true) (rw c.span-there.ensures at c.if-there-at.true),
  λ _. refl,
)
