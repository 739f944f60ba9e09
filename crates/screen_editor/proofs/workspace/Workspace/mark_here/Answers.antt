use Rattle.screen_editor.proofs.KeySteps.{mark_stays}
use Rattle.screen_editor.proofs.workspace.Workspace.mark_here.Goals as goal

pub returns : goal.returns
returns c = rw c.set_mark.ensures (mark_stays c.args.self.now c.last-last.ensures.kept c.last-last.ensures.history)
