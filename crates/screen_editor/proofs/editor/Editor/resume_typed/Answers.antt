use Rattle.std.specs.Option.{option_map}
use Rattle.key_journal.specs.Left.{keys_kept, keys_left}
use Rattle.screen_editor.specs.Editing.{seen}
use Rattle.screen_editor.proofs.TypedTurns.{resumes_typed}
use Rattle.screen_editor.proofs.editor.Editor.resume_typed.Goals as goal

pub returns-clause-resumes : goal.returns-clause-resumes
returns-clause-resumes g c =
    resumes_typed (option_map (λ h. h.now) c.args.hint) (option_map (λ h. h.now) c.hint_behind-told.result) c.untaken_behind-untaken.result c.args.played.now (keys_left g.K.Read.remaining c.args.keys.now) (keys_left g.K.Read.remaining c.run_typed.new.keys)
    (keys_kept g.J.Write.contents c.args.keys.now) (keys_kept g.J.Write.contents c.run_typed.new.keys) (g.W.Write.contents c.args.screen.now) (g.W.Write.contents c.run_typed.new.screen)
    (seen g.R.Sources.reading c.args.self.now) (seen g.R.Sources.reading c.play.new.self) (seen g.R.Sources.reading c.run_typed.new.self) c.run_typed.result c.hint_behind-told.ensures c.untaken_behind-untaken.ensures c.play.ensures.plays c.run_typed.ensures.run c.run_typed.ensures.kept
