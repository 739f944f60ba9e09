use Rattle.key_journal.specs.Left.{keys_kept, keys_left}
use Rattle.screen_editor.specs.Editing.{seen}
use Rattle.screen_editor.proofs.Playing.{resumes}
use Rattle.screen_editor.proofs.editor.Editor.resume.Goals as goal

pub returns-clause-resumes : goal.returns-clause-resumes
returns-clause-resumes g c =
    resumes c.args.played.now (keys_left g.K.Read.remaining c.args.keys.now) (keys_left g.K.Read.remaining c.run_kept.new.keys)
    (keys_kept g.J.Write.contents c.args.keys.now) (keys_kept g.J.Write.contents c.run_kept.new.keys) (g.W.Write.contents c.args.screen.now) (g.W.Write.contents c.run_kept.new.screen)
    (seen g.R.Sources.reading c.args.self.now) (seen g.R.Sources.reading c.play.new.self) (seen g.R.Sources.reading c.run_kept.new.self) c.run_kept.result c.play.ensures.plays c.run_kept.ensures.run c.run_kept.ensures.kept
