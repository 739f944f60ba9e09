use Rattle.std.specs.Option.{option_map}
use Rattle.key_journal.specs.Left.{keys_kept, keys_left}
use Rattle.screen_editor.specs.Playing.{KeepsTaken}
use Rattle.screen_editor.specs.Editing.{seen}
use Rattle.screen_editor.specs.Runs.{IsLater}
use Rattle.screen_editor.proofs.TypedTurns.{Typing}
use Rattle.screen_editor.proofs.editor.Editor.run_typed.Given as goal

abbrev pub invariant-loop : goal.invariant-loop
invariant-loop g l = record {
  typing : Typing (option_map (λ h. h.now) l.initial.told) l.initial.count (keys_left g.K.Read.remaining l.initial.keys) (keys_left g.K.Read.remaining l.keys) (g.W.Write.contents l.initial.screen) (g.W.Write.contents l.screen) (seen g.R.Sources.reading l.initial.self) (seen g.R.Sources.reading l.self) (option_map (λ h. h.now) l.told) l.count l.counter;
  later : IsLater (g.R.Sources.reading l.initial.self.sources) (g.R.Sources.reading l.self.sources);
  kept : KeepsTaken (keys_left g.K.Read.remaining l.initial.keys) (keys_left g.K.Read.remaining l.keys) (keys_kept g.J.Write.contents l.initial.keys) (keys_kept g.J.Write.contents l.keys);
}
