use Rattle.span_descent.proofs.Stands.{stand_goes}
use Rattle.span_descent.proofs.from_root.FromRootWay.step.Goals as goal

pub returns-in-Below-clause-on : goal.returns-in-Below-clause-on
returns-in-Below-clause-on g c =
    let on = c.requires.on in
    record {
      way = on.way;
      span = on.span;
      at = tt;
      stands = stand_goes (g.S.CountedSpace.table c.args.space.now) on.way.sound on.way.true_records c.args.x c.args.here c.in-Below.below c.args.view on.span on.stands c.requires.view c.in-Below.ensures.child;
    }
