use Rattle.screen_editor.proofs.KeysTaken.{balance_takes}
use Rattle.screen_editor.proofs.workspace.Workspace.balance.Goals as goal

pub returns : goal.returns
returns c = balance_takes c.last-last.ensures.kept c.last-last.ensures.history c.last-last.ensures.value c.place-place.ensures.value c.revise.ensures.done
