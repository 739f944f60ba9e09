use Rattle.std.proofs.Common.{[]}
use Rattle.std.specs.Io.Buffered.{reader_remaining}
use Rattle.line_server.specs.Batches.{Batch}
use Rattle.line_server.proofs.serving.take_batch.Given as goal

-- so many lines were taken
abbrev pub invariant-loop : goal.invariant-loop
invariant-loop g l = Batch g.T.TakesLines.step l.initial.taker l.taker (reader_remaining g.R.Read.remaining l.initial.requests)
    (reader_remaining g.R.Read.remaining l.requests) [] l.room.kept.items l.room.told.items
