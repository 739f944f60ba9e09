use Rattle.line_server.specs.Turns.{streams}
use Rattle.std.specs.Io.Buffered.{reader_remaining}
use Rattle.line_server.proofs.Seen.{run_seen}
use Rattle.session_server.specs.declared.speaking.Speaking.{Speaking}
use Rattle.session_server.specs.Spoken.{IsLeaving, Speaks, Spoken}
use Rattle.session_server.proofs.speaking.serve_speaking.Goals as goal

pub returns : goal.returns
returns g c =
    let a = streams (reader_remaining g.R.Read.remaining c.args.requests.now) (g.J.Write.contents c.args.journal.now) (g.W.Write.contents c.args.answers.now) in
    let b = streams (reader_remaining g.R.Read.remaining c.serve.new.requests) (g.J.Write.contents c.serve.new.journal) (g.W.Write.contents c.serve.new.answers) in
    let view : Speaking g.row.S.Denot → Spoken = λ (s : Speaking g.row.S.Denot). record { session = s.session; reading = g.S.Sources.reading s.sources } in
    run_seen view Speaks IsLeaving c.args.speaking.now c.serve.new.taker a b c.serve.result c.serve.ensures
