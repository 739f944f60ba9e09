use Rattle.cord_position.proofs.HereLaws.{starts_here, starts_there}
use Rattle.cord_position.proofs.position.Pos.run_start.Goals as goal

pub returns-then-holds : goal.returns-then-holds
returns-then-holds g c =
    let a = c.self.inside in
    rw (← c.self.view_is) (starts_here (g.S.NodeSpace.table a.space.now) a.rope a.place a.here c.self.invariant.here (c.holds.ensures.0 c.if-holds.true))

pub returns-else-holds : goal.returns-else-holds
returns-else-holds g c =
    let a = c.self.inside in
    rw (← c.self.view_is) (starts_there (g.S.NodeSpace.table a.space.now) a.rope a.place a.here c.self.invariant.here
    (λ held. let holds = c.holds.ensures.1 held in absurd cc))
