use Rattle.std.proofs.Common.{sym, arith}
use Rattle.screen_editor.proofs.KeySteps.{paste_idle, paste_too_long}
use Rattle.screen_editor.proofs.KeysTaken.{paste_takes}
use Rattle.screen_editor.proofs.workspace.Workspace.paste.Goals as goal

pub returns-in_default : goal.returns-in_default
returns-in_default c = paste_idle c.args.self.now c.last-last.ensures.kept c.last-last.ensures.history (sym c.in_default.ensures.value)

pub returns-then-span-len : goal.returns-then-span-len
returns-then-span-len c = paste_too_long c.args.self.now c.in-Some.span c.last-last.ensures.kept c.last-last.ensures.history (sym c.in-Some.ensures.value) c.in-Some.ensures.inside (omega arith)

pub returns : goal.returns
returns c = paste_takes c.last-last.ensures.kept c.last-last.ensures.history c.last-last.ensures.value c.in-Some.span c.place-place.ensures.value c.in-Some.ensures.value c.in-Some.ensures.inside (omega arith) c.revise.ensures.done
