use Rattle.std.proofs.Common.{Err}
use Rattle.std.specs.Io.Buffered.{reader_remaining}
use Rattle.line_server.specs.Turns.{ServeStreams}
use Rattle.line_server.specs.Batches.{Tells}
use Rattle.line_server.proofs.Runs.{tells_same, untold_batch}
use Rattle.line_server.proofs.serving.serve_batch.Goals as goal

pub returns-in-Err : goal.returns-in-Err
returns-in-Err g c =
    let a : ServeStreams = record { requests = reader_remaining g.R.Read.remaining c.args.requests.now; journal = g.J.Write.contents c.args.journal.now; answers = g.W.Write.contents c.args.answers.now } in
    let b : ServeStreams = record { requests = reader_remaining g.R.Read.remaining c.take_batch-batch.new.requests; journal = g.J.Write.contents c.keep_and_tell.new.journal; answers = g.W.Write.contents c.keep_and_tell.new.answers } in
    let tells : Tells a.journal b.journal a.answers b.answers c.take_batch-batch.new.room.kept.items c.take_batch-batch.new.room.told.items (Err c.in-Err.fault) =
    tells_same _ _ _ _ _ _ _ _ (Err c.in-Err.fault) c.deref.ensures.value c.deref-2.ensures.value c.in-Err.ensures in
    untold_batch g.T.TakesLines.step g.T.TakesLines.ends c.args.taker.now c.take_batch-batch.new.taker a b c.take_batch-batch.result
    c.take_batch-batch.new.room.kept.items c.take_batch-batch.new.room.told.items c.in-Err.fault c.take_batch-batch.ensures tells
