use Rattle.std.proofs.Common.{refl, sym}
use Rattle.screen_editor.proofs.KeySteps.{undo_idle}
use Rattle.screen_editor.proofs.KeysTaken.{undo_takes}
use Rattle.screen_editor.proofs.workspace.Workspace.undo.Goals as goal

pub returns-in_default : goal.returns-in_default
returns-in_default c = undo_idle c.args.self.now c.last-last.ensures.kept c.last-last.ensures.history (rw (← c.last-last.ensures.value) (sym c.in_default.ensures.value))

pub returns : goal.returns
returns c = undo_takes c.last-last.ensures.kept c.last-last.ensures.history c.last-last.ensures.value c.in-Some.ensures.value c.in-Some.ensures.earlier c.prior-prior.ensures.value
    (rw (c.min-place.ensures, c.place.ensures.value, c.len_of.ensures.value) refl) c.revise.ensures.done
