use Rattle.screen_editor.proofs.LineTurns.{failed_takes, moved_takes, plain_takes}
use Rattle.screen_editor.proofs.editor.take.Goals as goal

pub returns-in-Ok-Some : goal.returns-in-Ok-Some
returns-in-Ok-Some g c = moved_takes c.args.key (g.R.Sources.reading c.args.sources.now) (g.R.Sources.reading c.line_place.new.sources) c.args.workspace.now c.move_to.new.self c.in-Ok-Some.place c.last-last.ensures.kept c.last-last.ensures.history (rw c.in-Ok-Some.field-0-is at c.in-Ok-Some.ensures.place) c.move_to.ensures c.in-Ok-Some.ensures.reads

pub returns-in-Ok-None : goal.returns-in-Ok-None
returns-in-Ok-None g c = plain_takes c.args.key (g.R.Sources.reading c.args.sources.now) (g.R.Sources.reading c.line_place.new.sources) c.args.workspace.now c.take.new.self c.take.result (rw c.in-Ok-None.field-0-is at c.in-Ok-None.ensures.place) c.take.ensures c.in-Ok-None.ensures.reads

pub returns-in-Err : goal.returns-in-Err
returns-in-Err g c = failed_takes c.args.key (g.R.Sources.reading c.args.sources.now) (g.R.Sources.reading c.line_place.new.sources) c.args.workspace.now c.in-Err.fault c.last-last.ensures.kept c.last-last.ensures.history c.in-Err.ensures.looks c.in-Err.ensures.reads
