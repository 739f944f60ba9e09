use Rattle.std.proofs.Common.{refl, arith}
use Rattle.screen_editor.proofs.KeySteps.{typed_too_long}
use Rattle.screen_editor.proofs.KeysTaken.{typed_takes}
use Rattle.screen_editor.proofs.workspace.Workspace.type_byte.Goals as goal

pub returns-then-len-ge-LONGEST_TEXT : goal.returns-then-len-ge-LONGEST_TEXT
returns-then-len-ge-LONGEST_TEXT c = typed_too_long c.args.self.now c.args.byte c.last-last.ensures.kept c.last-last.ensures.history (omega arith)

pub returns : goal.returns
returns c = typed_takes c.last-last.ensures.kept c.last-last.ensures.history c.last-last.ensures.value c.args.byte c.place-place.ensures.value (omega arith) refl c.revise.ensures.done
