use Rattle.cord_tools.proofs.Bytes.{up_to}
use Rattle.cord_tools.proofs.input.read_up_to.Goals as goal

pub returns-clause-ok : goal.returns-clause-ok
returns-clause-ok g c =
    let remaining = g.R.Read.remaining in
    up_to c.args.limit (remaining c.args.reader) (remaining c.read_on.new.reader) c.new-bytes.result.items c.read_on.new.bytes.items
    c.new-bytes.ensures.items c.in_ok-read_on.ensures.ok
