use Rattle.std.proofs.Common.{◌-◌, ◌+◌, ◌≡◌, arith}
use Rattle.span_descent.proofs.Stops.{trail_goes_on}
use Rattle.span_descent.proofs.trail.Trail.push.Goals as goal

pub returns : goal.returns
returns g c =
    let count = c.args.self.now.count in
    let last : count + 1 - 1 ≡ count = omega arith in
    record {
      trail = trail_goes_on (g.S.CountedSpace.table c.args.space.now) c.args.x.node c.args.self.now.stops count c.args.stop c.requires.trail c.requires.stop;
      stop = rw last c.requires.stop;
      holds = c.requires.holds;
    }
