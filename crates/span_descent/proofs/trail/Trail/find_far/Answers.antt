use Rattle.span_descent.proofs.Stops.{found_stop}
use Rattle.span_descent.proofs.trail.Trail.find_far.Goals as goal

pub returns : goal.returns
returns g c =
    found_stop (g.S.CountedSpace.table c.args.space.now) c.args.root c.args.self.now.stops c.args.self.now.count c.requires.trail c.loop-high.low c.loop-high.invariant.there c.args.place c.args.node c.args.start c.found.result c.found.ensures
