use Rattle.std.proofs.Common.{length, Some, sym, subst, ◌<◌, arith}
use Rattle.std.specs.Io.KnownBytes.{Consumes}
use Rattle.terminal_keys.specs.Left.{terminal_left, GivesKey}
use Rattle.terminal_keys.proofs.Known.{first_set}
use Rattle.terminal_keys.proofs.reading.TerminalKeysRead.read.Goals as goal

pub returns-in-Some-clause-bytes : goal.returns-in-Some-clause-bytes
returns-in-Some-clause-bytes g c =
    let old = terminal_left g.R.Read.remaining c.args.self.now in
    let new = terminal_left g.R.Read.remaining c.next_key.new.self in
    let key = c.in-Some.key in
    let taken : GivesKey g.R.Read.remaining c.args.self.now c.next_key.new.self (Some key) =
    subst (GivesKey g.R.Read.remaining c.args.self.now c.next_key.new.self) c.in-Some.is c.in_ok-next_key.ensures.taken in
    let room : 0 < length c.args.buf.now = grind (arith, c.if-is_empty.ensures) in
    let put = first_set key c.args.buf.now room in
    (subst (Consumes old new) (sym put) taken, λ zero. absurd (omega (arith, zero)))
