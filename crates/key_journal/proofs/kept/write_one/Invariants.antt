use Rattle.std.specs.Io.KnownBytes.{Keeps}
use Rattle.key_journal.proofs.kept.write_one.Given as goal

-- nothing is written yet
abbrev pub invariant-loop : goal.invariant-loop
invariant-loop g l = Keeps (g.W.Write.contents l.initial.writer) (g.W.Write.contents l.writer)
