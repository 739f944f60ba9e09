use Rattle.std.proofs.Common.{arith}
use Rattle.cord_tools.proofs.Bytes.{read_then}
use Rattle.cord_tools.proofs.input.read_on.Goals as goal

pub loop-left-preserved : goal.loop-left-preserved
loop-left-preserved g c =
    let before = c.loop-left.invariant in
    let read = c.in_ok-read.ensures in
    let remaining = g.R.Read.remaining in (
      read_then (remaining c.args.reader.now) (remaining c.loop-left.reader) (remaining c.read_piece.new.reader)
          c.reserve.new.self.items c.loop-left.bytes.items c.read_piece.new.bytes.items before.0 read.ok,
      omega (arith, before.1, read.count.0, read.count.1),
    )
