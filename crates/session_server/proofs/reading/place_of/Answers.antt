use Rattle.session_server.proofs.Faults.{searched_there}
use Rattle.session_server.proofs.reading.place_of.Goals as goal

pub returns-in-Err-clause-reads : goal.returns-in-Err-clause-reads
returns-in-Err-clause-reads g c =
    searched_there c.args.session.now c.args.r c.args.i c.space.result.now c.root_of-root.result
    (g.T.Sources.reading c.args.sources.now) (g.T.Sources.reading c.find.new.sources) c.in-Err.fault c.from.result
    c.space.ensures.store c.root_of-root.ensures.root c.from.ensures c.in-Err.ensures.reads
