use Rattle.std.proofs.Common.{length}
use Rattle.session_server.proofs.RopeReads.{read_bytes}
use Rattle.session_server.proofs.reading.read_part.Goals as goal

pub returns-in-Some-clause-bytes : goal.returns-in-Some-clause-bytes
returns-in-Some-clause-bytes g c =
    read_bytes c.gather.result (g.S.NodeSpace.table c.args.space.now) (g.T.Sources.reading c.args.sources.now).stated c.args.rope c.in-Some.node c.args.from (length c.args.buffer.now) c.gather.new.buffer
    c.in-Some.is c.gather.ensures.length c.gather.ensures.bytes
