use Rattle.std.specs.Io.Buffered.{reader_remaining}
use Rattle.terminal_keys.specs.Left.{KeepsKeys}
use Rattle.terminal_keys.proofs.reading.TerminalKeysBufReaderReady.is_ready.Given as goal

abbrev pub invariant-loop : goal.invariant-loop
invariant-loop g l = KeepsKeys (reader_remaining g.R.Read.remaining) l.initial.self l.self
