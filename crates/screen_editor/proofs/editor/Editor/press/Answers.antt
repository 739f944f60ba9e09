use Rattle.std.proofs.Common.{sym, ◌∙◌}
use Rattle.screen_editor.specs.Keys.{key_of}
use Rattle.screen_editor.proofs.TakenKeys.{refused_goes_on}
use Rattle.screen_editor.proofs.editor.Editor.press.Goals as goal

pub returns-in-Ok-Save-clause-presses : goal.returns-in-Ok-Save-clause-presses
returns-in-Ok-Save-clause-presses g c = (record { result = c.key.result; takes = c.key.ensures.takes }, sym c.in-Ok-Save.ensures.takes.answer ∙ c.in-Ok-Save.field-0-is)

pub returns-in-Ok-Leave-clause-presses : goal.returns-in-Ok-Leave-clause-presses
returns-in-Ok-Leave-clause-presses g c = (record { result = c.key.result; takes = c.key.ensures.takes }, sym c.in-Ok-Leave.ensures.takes.answer ∙ c.in-Ok-Leave.field-0-is)

pub returns-in-Ok-Going-clause-presses : goal.returns-in-Ok-Going-clause-presses
returns-in-Ok-Going-clause-presses g c = (record { result = c.key.result; takes = c.key.ensures.takes }, sym c.in-Ok-Going.ensures.takes.answer ∙ c.in-Ok-Going.field-0-is)

pub returns-in-Err-clause-presses : goal.returns-in-Err-clause-presses
returns-in-Err-clause-presses g c = (
  record { result = c.key.result; takes = c.key.ensures.takes },
  refused_goes_on (g.R.Sources.reading c.args.self.now.sources) (g.R.Sources.reading c.key.new.self.sources) (key_of c.args.byte) c.args.self.now.editing c.key.new.self.editing c.in-Err.field-0 c.in-Err.ensures.takes.fault c.in-Err.ensures.takes.reads,
)
