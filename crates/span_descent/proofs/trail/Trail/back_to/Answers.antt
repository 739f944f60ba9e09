use Rattle.std.proofs.Common.{inr, arith}
use Rattle.span_descent.proofs.Stops.{begins_with_root, root_holds}
use Rattle.span_descent.proofs.trail.Trail.back_to.Goals as goal

pub returns-clause-holds : goal.returns-clause-holds
returns-clause-holds g c = root_holds (g.S.CountedSpace.table c.args.space.now) c.args.x.node c.loop-self.self.stops c.loop-self.self.count c.loop-self.invariant c.args.x.start c.args.len (omega (arith, c.requires.span.inside))

pub returns-clause-low : goal.returns-clause-low
returns-clause-low g c = inr (begins_with_root (g.S.CountedSpace.table c.args.space.now) c.args.x.node c.loop-self.self.stops c.loop-self.self.count c.loop-self.invariant)
