use Rattle.std.proofs.Common.{◌≡◌, [], length}
use Rattle.std.specs.Io.KnownBytes.{Consumes}
use Rattle.key_journal.proofs.kept.read_one.Given as goal

-- no byte is taken yet
abbrev pub invariant-loop : goal.invariant-loop
invariant-loop g l = record {
  none_taken : Consumes (g.R.Read.remaining l.initial.reader) (g.R.Read.remaining l.reader) [];
  one : length l.one ≡ 1;
}
