use Rattle.std.proofs.Common.{take}
use Rattle.screen_editor.specs.Editing.{seen}
use Rattle.screen_editor.specs.Runs.{IsLater}
use Rattle.screen_editor.proofs.Playing.{Played}
use Rattle.screen_editor.proofs.editor.Editor.play.Given as goal

abbrev pub invariant-loop-key : goal.invariant-loop-key
invariant-loop-key g l = record {
  played : Played (seen g.R.Sources.reading l.initial.self) (take l.key-index l.keys) (seen g.R.Sources.reading l.self);
  later : IsLater (g.R.Sources.reading l.initial.self.sources) (g.R.Sources.reading l.self.sources);
}
