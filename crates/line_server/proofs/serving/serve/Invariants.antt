use Rattle.std.proofs.Common.{[]}
use Rattle.std.specs.Io.Buffered.{reader_remaining}
use Rattle.line_server.specs.Runs.{Serving}
use Rattle.line_server.proofs.serving.serve.Given as goal

-- so many lines were served
abbrev pub invariant-loop : goal.invariant-loop
invariant-loop g l = Serving g.T.TakesLines.step l.initial.taker l.taker
    (record { requests = reader_remaining g.R.Read.remaining l.initial.requests; journal = g.J.Write.contents l.initial.journal; answers = g.W.Write.contents l.initial.answers })
    (record { requests = reader_remaining g.R.Read.remaining l.requests; journal = g.J.Write.contents l.journal; answers = g.W.Write.contents l.answers })
    [] [] []
