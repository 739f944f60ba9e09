use Rattle.std.proofs.Common.{Option, Ok, subst}
use Rattle.std.specs.Io.Buffered.{reader_remaining}
use Rattle.line_server.specs.declared.fault.End.{End}
use Rattle.line_server.specs.Turns.{IsLineTurn}
use Rattle.line_server.proofs.Batches.{batch_ends, batch_fails, batch_more}
use Rattle.line_server.proofs.serving.take_batch.Goals as goal

pub returns-in-Ok-Some : goal.returns-in-Ok-Some
returns-in-Ok-Some g c =
    let remaining = reader_remaining g.R.Read.remaining in
    batch_ends g.T.TakesLines.step g.T.TakesLines.ends c.args.taker.now c.loop.taker c.turn.new.taker (remaining c.args.requests.now)
    (remaining c.loop.requests) (remaining c.turn.new.requests) _ _ _ _ c.in-Ok-Some.end c.loop.invariant
    (subst (λ (x : Option End). IsLineTurn g.T.TakesLines.step g.T.TakesLines.ends c.loop.taker (remaining c.loop.requests) c.loop.room.kept.items c.loop.room.told.items (Ok x) c.turn.new.taker (remaining c.turn.new.requests) c.turn.new.room.kept.items c.turn.new.room.told.items)
    c.in-Ok-Some.field-0-is c.in-Ok-Some.ensures)

pub returns-in-Err : goal.returns-in-Err
returns-in-Err g c =
    let remaining = reader_remaining g.R.Read.remaining in
    batch_fails g.T.TakesLines.step g.T.TakesLines.ends c.args.taker.now c.loop.taker c.turn.new.taker (remaining c.args.requests.now)
    (remaining c.loop.requests) (remaining c.turn.new.requests) _ _ _ _ c.in-Err.fault c.loop.invariant c.in-Err.ensures

pub returns-then-is_full : goal.returns-then-is_full
returns-then-is_full g c =
    let remaining = reader_remaining g.R.Read.remaining in
    batch_more g.T.TakesLines.step g.T.TakesLines.ends c.args.taker.now c.loop.taker c.turn.new.taker (remaining c.args.requests.now)
    (remaining c.loop.requests) (remaining c.turn.new.requests) _ _ _ _ c.loop.invariant
    (subst (λ (x : Option End). IsLineTurn g.T.TakesLines.step g.T.TakesLines.ends c.loop.taker (remaining c.loop.requests) c.loop.room.kept.items c.loop.room.told.items (Ok x) c.turn.new.taker (remaining c.turn.new.requests) c.turn.new.room.kept.items c.turn.new.room.told.items)
    c.in-Ok-None.field-0-is c.in-Ok-None.ensures)

pub loop-preserved : goal.loop-preserved
loop-preserved g c =
    let remaining = reader_remaining g.R.Read.remaining in
    batch_more g.T.TakesLines.step g.T.TakesLines.ends c.args.taker.now c.loop.taker c.turn.new.taker (remaining c.args.requests.now)
    (remaining c.loop.requests) (remaining c.turn.new.requests) _ _ _ _ c.loop.invariant
    (subst (λ (x : Option End). IsLineTurn g.T.TakesLines.step g.T.TakesLines.ends c.loop.taker (remaining c.loop.requests) c.loop.room.kept.items c.loop.room.told.items (Ok x) c.turn.new.taker (remaining c.turn.new.requests) c.turn.new.room.kept.items c.turn.new.room.told.items)
    c.in-Ok-None.field-0-is c.in-Ok-None.ensures)
