use Rattle.std.proofs.Common.{Option, None, Ok, [], subst}
use Rattle.line_server.specs.declared.fault.End.{End}
use Rattle.std.specs.Io.Buffered.{reader_remaining}
use Rattle.line_server.specs.Turns.{ServeStreams}
use Rattle.line_server.specs.Runs.{RunsOn}
use Rattle.line_server.proofs.Runs.{ends_run, fails_run, serving_both}
use Rattle.line_server.proofs.serving.serve.Goals as goal

pub returns-in-Ok-Some : goal.returns-in-Ok-Some
returns-in-Ok-Some g c =
    let a : ServeStreams = record { requests = reader_remaining g.R.Read.remaining c.args.requests.now; journal = g.J.Write.contents c.args.journal.now; answers = g.W.Write.contents c.args.answers.now } in
    let b : ServeStreams = record { requests = reader_remaining g.R.Read.remaining c.loop.requests; journal = g.J.Write.contents c.loop.journal; answers = g.W.Write.contents c.loop.answers } in
    let now : ServeStreams = record { requests = reader_remaining g.R.Read.remaining c.serve_batch.new.requests; journal = g.J.Write.contents c.serve_batch.new.journal; answers = g.W.Write.contents c.serve_batch.new.answers } in
    ends_run g.T.TakesLines.step g.T.TakesLines.ends c.args.taker.now c.loop.taker c.serve_batch.new.taker a b now c.in-Ok-Some.end c.loop.invariant
    (subst (λ (x : Option End). RunsOn g.T.TakesLines.step g.T.TakesLines.ends c.loop.taker b (Ok x) c.serve_batch.new.taker now) c.in-Ok-Some.field-0-is c.in-Ok-Some.ensures)

pub returns-in-Err : goal.returns-in-Err
returns-in-Err g c =
    let a : ServeStreams = record { requests = reader_remaining g.R.Read.remaining c.args.requests.now; journal = g.J.Write.contents c.args.journal.now; answers = g.W.Write.contents c.args.answers.now } in
    let b : ServeStreams = record { requests = reader_remaining g.R.Read.remaining c.loop.requests; journal = g.J.Write.contents c.loop.journal; answers = g.W.Write.contents c.loop.answers } in
    let now : ServeStreams = record { requests = reader_remaining g.R.Read.remaining c.serve_batch.new.requests; journal = g.J.Write.contents c.serve_batch.new.journal; answers = g.W.Write.contents c.serve_batch.new.answers } in
    fails_run g.T.TakesLines.step g.T.TakesLines.ends c.args.taker.now c.loop.taker c.serve_batch.new.taker a b now c.in-Err.fault c.loop.invariant c.in-Err.ensures

pub loop-preserved : goal.loop-preserved
loop-preserved g c =
    let a : ServeStreams = record { requests = reader_remaining g.R.Read.remaining c.args.requests.now; journal = g.J.Write.contents c.args.journal.now; answers = g.W.Write.contents c.args.answers.now } in
    let b : ServeStreams = record { requests = reader_remaining g.R.Read.remaining c.loop.requests; journal = g.J.Write.contents c.loop.journal; answers = g.W.Write.contents c.loop.answers } in
    let now : ServeStreams = record { requests = reader_remaining g.R.Read.remaining c.serve_batch.new.requests; journal = g.J.Write.contents c.serve_batch.new.journal; answers = g.W.Write.contents c.serve_batch.new.answers } in
    let then : RunsOn g.T.TakesLines.step g.T.TakesLines.ends c.loop.taker b (Ok None) c.serve_batch.new.taker now =
    subst (λ (x : Option End). RunsOn g.T.TakesLines.step g.T.TakesLines.ends c.loop.taker b (Ok x) c.serve_batch.new.taker now) c.in-Ok-None.field-0-is c.in-Ok-None.ensures in
    serving_both g.T.TakesLines.step c.args.taker.now c.loop.taker c.serve_batch.new.taker a b now [] [] [] c.loop.invariant then
