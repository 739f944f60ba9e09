use Rattle.std.proofs.Common.{arith}
use Rattle.cord_tools.proofs.Bytes.{judged_image, short_image}
use Rattle.cord_tools.proofs.input.read_image.Goals as goal

pub returns-then-len-lt-HEADER_SIZE-clause-ok : goal.returns-then-len-lt-HEADER_SIZE-clause-ok
returns-then-len-lt-HEADER_SIZE-clause-ok g c =
    let remaining = g.R.Read.remaining in
    short_image (remaining c.args.reader) (remaining c.read_on.new.reader) c.new-bytes.result.items c.read_on.new.bytes.items
    c.new-bytes.ensures.items c.in_ok-read_on.ensures.ok (omega (arith, c.if-len-lt-HEADER_SIZE.true, c.len.ensures))

pub returns-clause-ok : goal.returns-clause-ok
returns-clause-ok g c =
    let remaining = g.R.Read.remaining in
    judged_image (remaining c.args.reader) (remaining c.read_on.new.reader) (remaining c.read_on-2.new.reader)
    c.new-bytes.result.items c.read_on.new.bytes.items c.read_on-2.new.bytes.items c.judged_len-limit.result c.new-bytes.ensures.items
    (omega (arith, c.if-len-lt-HEADER_SIZE.false, c.len.ensures)) (rw c.deref.ensures.value at c.judged_len-limit.ensures.value)
    c.in_ok-read_on.ensures.ok.bytes c.in_ok-read_on-2.ensures.ok
