use Rattle.screen_editor.proofs.PlainKeys.{passed_over}
use Rattle.screen_editor.proofs.workspace.Workspace.take.Goals as goal

pub returns-in-LineStart : goal.returns-in-LineStart
returns-in-LineStart c = passed_over c.args.key c.args.self.now c.last-last.ensures.kept c.last-last.ensures.history c.requires c.in-LineStart.is
