use Rattle.std.specs.Io.KnownBytes.{Keeps}
use Rattle.cord_tools.proofs.input.read_some.Given as goal

-- the reads so far were interrupted
abbrev pub invariant-loop : goal.invariant-loop
invariant-loop g l = Keeps (g.R.Read.remaining l.initial.reader) (g.R.Read.remaining l.reader)
