use Rattle.std.proofs.Common.{◌+◌, min, length, arith}
use Rattle.cord_position.specs.Position.{cell_of, left_here}
use Rattle.cord_position.specs.Runs.{rope_span}
use Rattle.cord_search.proofs.Pieces.{filled_run}
use Rattle.cord_search.proofs.Reaching.{reads_more}
use Rattle.cord_search.proofs.runs.fill_run.Goals as goal

pub returns-clause-bytes : goal.returns-clause-bytes
returns-clause-bytes g c =
    let here = c.args.pos.now in
    let t = g.S.NodeSpace.table here.space in
    filled_run t (g.T.Sources.reading c.args.sources.now).stated here.rope here.index (length c.args.buffer.now) (rope_span t here.rope here.index) c.fill.new.buffer c.fill.result c.run_left-left.ensures.run c.fill.ensures.count c.fill.ensures.bytes

pub returns-clause-reads : goal.returns-clause-reads
returns-clause-reads g c =
    let here = c.args.pos.now in
    reads_more (g.T.Sources.reading c.args.sources.now) (g.T.Sources.reading c.fill.new.sources) (cell_of g.S.NodeSpace.table here) here.index (here.index + length c.args.buffer.now)
    (here.index + min (left_here g.S.NodeSpace.table here) (length c.args.buffer.now)) c.fill.result (omega arith) c.fill.ensures.reads
