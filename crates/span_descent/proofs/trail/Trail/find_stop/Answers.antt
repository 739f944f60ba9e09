use Rattle.std.proofs.Common.{◌-◌, arith}
use Rattle.span_descent.proofs.Stops.{found_stop}
use Rattle.span_descent.proofs.trail.Trail.find_stop.Goals as goal

pub returns-then-stop-node : goal.returns-then-stop-node
returns-then-stop-node g c =
    found_stop (g.S.CountedSpace.table c.args.space.now) c.args.root c.args.self.now.stops c.args.self.now.count c.requires (c.loop-i.i - 1) (omega (arith, c.loop-i.invariant, c.loop-i-test.true)) c.args.place c.args.node c.args.start c.found.result c.found.ensures
