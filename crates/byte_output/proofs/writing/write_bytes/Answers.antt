use Rattle.std.proofs.Common.{arith}
use Rattle.std.proofs.lemmas.List.{length-drop, take_rest}
use Rattle.byte_output.proofs.Appended.{Appends-then}
use Rattle.byte_output.proofs.writing.write_bytes.Goals as goal

pub loop-preserved : goal.loop-preserved
loop-preserved g c =
    let bytes = c.args.bytes.now in
    let rest = take_rest bytes c.loop.done in
    let count = rw rest at c.in_ok-done.ensures.count in (
      omega (arith, count, length-drop c.loop.done bytes, c.loop.invariant.0),
      Appends-then (g.W.Write.contents c.args.writer.now) (g.W.Write.contents c.loop.writer) (g.W.Write.contents c.write_some.new.writer) c.loop.done c.in_ok-done.field-0 bytes c.loop.invariant.1 (rw rest at c.in_ok-done.ensures.ok),
      λ some. omega (arith, c.if-done-bytes.false, c.loop.invariant.0),
    )
