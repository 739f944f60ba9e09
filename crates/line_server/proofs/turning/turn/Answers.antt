use Rattle.std.proofs.Common.{rules, true, ap, ◌++◌, ◌∙◌, Some, Ok, List, ℕ}
use Rattle.line_server.specs.Turns.{TakesOrEnds, ended, kept_line}
use Rattle.line_server.specs.Reading.{ReadsLine}
use Rattle.line_server.proofs.turning.turn.Goals as goal

pub returns-in-Ok : goal.returns-in-Ok
returns-in-Ok g c =
    let line = c.read_line.new.room.items in
    let kept = c.args.room.now.kept.items in
    let told = c.args.room.now.told.items in
    let answer = c.take_line.new.room.answer.items in
    let read : ReadsLine (g.R.Read.remaining c.args.requests.now) (g.R.Read.remaining c.read_line.new.reader) line (Ok true) = search rules in
    let taken : TakesOrEnds g.T.TakesLines.step g.T.TakesLines.ends c.args.taker.now line (Some c.in-Some.is_kept) answer c.take_line.new.taker = search rules in (
      record { line = line; kept = c.in-Some.is_kept; answer = answer; one = read.0; takes = taken },
      read.1,
      c.in-Ok.ensures.kept
          ∙ ap (λ (x : List ℕ). x ++ kept_line c.in-Some.is_kept c.take_line.new.room.line.items) c.take_line.ensures.kept
          ∙ ap (λ (x : List ℕ). kept ++ kept_line c.in-Some.is_kept x) c.take_line.ensures.line,
      c.in-Ok.ensures.told ∙ ap (λ (x : List ℕ). x ++ ended answer) c.take_line.ensures.told,
    )
