use Rattle.std.proofs.Common.{arith}
use Rattle.screen_editor.proofs.KeySteps.{erase_at_idle}
use Rattle.screen_editor.proofs.KeysTaken.{erase_at_takes}
use Rattle.screen_editor.proofs.workspace.Workspace.erase_at.Goals as goal

pub returns-then-place-len : goal.returns-then-place-len
returns-then-place-len c = erase_at_idle c.args.self.now c.last-last.ensures.kept c.last-last.ensures.history (omega arith)

pub returns : goal.returns
returns c = erase_at_takes c.last-last.ensures.kept c.last-last.ensures.history c.last-last.ensures.value c.place-place.ensures.value (omega arith) c.revise.ensures.done
