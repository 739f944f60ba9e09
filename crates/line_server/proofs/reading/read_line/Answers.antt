use Rattle.std.proofs.Common.{rules, ◌≢◌}
use Rattle.std.specs.List.{All}
use Rattle.line_server.proofs.Lines.{at_end}
use Rattle.line_server.proofs.reading.read_line.Goals as goal

pub returns-else-is_ended : goal.returns-else-is_ended
returns-else-is_ended g c =
    let room = c.read_through.new.room.items in
    let all : All (λ b. b ≢ 10) room = search rules in
    (all, c.read_through.ensures.read, at_end (g.R.Read.remaining c.args.reader.now) (g.R.Read.remaining c.read_through.new.reader) room c.in_ok-read_through.ensures.bytes c.in_ok-read_through.ensures.rest all)
