use Rattle.screen_editor.proofs.KeySteps.{drop_cut_stays}
use Rattle.screen_editor.proofs.workspace.Workspace.forget_cut.Goals as goal

pub returns : goal.returns
returns c = rw c.drop_cut.ensures (drop_cut_stays c.args.self.now c.last-last.ensures.kept c.last-last.ensures.history)
