use Rattle.std.proofs.Common.{◌≡◌, [], length}
use Rattle.std.specs.Io.KnownBytes.{Consumes}
use Rattle.screen_editor.proofs.running.next_key.Given as goal

-- no key is taken yet
abbrev pub invariant-loop : goal.invariant-loop
invariant-loop g l = record {
  none_taken : Consumes (g.K.Read.remaining l.initial.keys) (g.K.Read.remaining l.keys) [];
  one : length l.buffer ≡ 1;
}
