use Rattle.span_descent.proofs.Stops.{trail_begins}
use Rattle.span_descent.proofs.trail.Trail.begin_at.Goals as goal

pub returns-then-self-eq0 : goal.returns-then-self-eq0
returns-then-self-eq0 g c = rw c.node_len.ensures.value
    (trail_begins (g.S.CountedSpace.table c.args.space.now) c.requires.sound c.args.root c.requires.there c.args.self.now.stops c.requires.trail.room)
