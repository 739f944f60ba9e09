use Rattle.screen_editor.specs.Editing.{seen}
use Rattle.screen_editor.specs.Runs.{IsLater}
use Rattle.screen_editor.proofs.ManyTurns.{Ran}
use Rattle.screen_editor.proofs.editor.Editor.run.Given as goal

abbrev pub invariant-loop : goal.invariant-loop
invariant-loop g l = record {
  ran : Ran (g.K.Read.remaining l.initial.keys) (g.K.Read.remaining l.keys) (g.W.Write.contents l.initial.screen) (g.W.Write.contents l.screen) (seen g.R.Sources.reading l.initial.self) (seen g.R.Sources.reading l.self) l.counter;
  later : IsLater (g.R.Sources.reading l.initial.self.sources) (g.R.Sources.reading l.self.sources);
}
