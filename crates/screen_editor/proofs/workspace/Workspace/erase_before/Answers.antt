use Rattle.std.proofs.Common.{arith}
use Rattle.screen_editor.proofs.KeySteps.{erase_before_idle}
use Rattle.screen_editor.proofs.KeysTaken.{erase_before_takes}
use Rattle.screen_editor.proofs.workspace.Workspace.erase_before.Goals as goal

pub returns-then-place-eq0 : goal.returns-then-place-eq0
returns-then-place-eq0 c = erase_before_idle c.args.self.now c.last-last.ensures.kept c.last-last.ensures.history (omega arith)

pub returns : goal.returns
returns c = erase_before_takes c.last-last.ensures.kept c.last-last.ensures.history c.last-last.ensures.value c.place-place.ensures.value (omega arith) c.revise.ensures.done
