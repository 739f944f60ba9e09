use Rattle.cord_position.proofs.position.Pos.fetch.Goals as goal

pub returns-clause-reads : goal.returns-clause-reads
returns-clause-reads g c = rw (← c.self.view_is) c.fetch_here.ensures.reads
