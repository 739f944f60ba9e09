use Rattle.std.proofs.Common.{arith}
use Rattle.screen_editor.proofs.KeySteps.{right_idle, right_stays}
use Rattle.screen_editor.proofs.workspace.Workspace.move_right.Goals as goal

pub returns-then-place-len : goal.returns-then-place-len
returns-then-place-len c = rw (c.move_to.ensures, c.place-place.ensures.value) (right_stays c.args.self.now c.last-last.ensures.kept c.last-last.ensures.history (omega arith))

pub returns-else-place-len : goal.returns-else-place-len
returns-else-place-len c = right_idle c.args.self.now c.last-last.ensures.kept c.last-last.ensures.history (omega arith)
