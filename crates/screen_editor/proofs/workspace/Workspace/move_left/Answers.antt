use Rattle.std.proofs.Common.{arith}
use Rattle.screen_editor.proofs.KeySteps.{left_idle, left_stays}
use Rattle.screen_editor.proofs.workspace.Workspace.move_left.Goals as goal

pub returns-then-place-gt0 : goal.returns-then-place-gt0
returns-then-place-gt0 c = rw (c.move_to.ensures, c.place-place.ensures.value) (left_stays c.args.self.now c.last-last.ensures.kept c.last-last.ensures.history (omega arith))

pub returns-else-place-gt0 : goal.returns-else-place-gt0
returns-else-place-gt0 c = left_idle c.args.self.now c.last-last.ensures.kept c.last-last.ensures.history (omega arith)
