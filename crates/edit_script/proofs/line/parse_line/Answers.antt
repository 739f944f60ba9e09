use Rattle.edit_script.proofs.Laws.{is_found, is_only}
use Rattle.edit_script.proofs.line.parse_line.Goals as goal

pub returns-clause-found : goal.returns-clause-found
returns-clause-found c = is_found c.args.line.now c.read_line.new.room c.read_line.result c.read_line.ensures.read

pub returns-clause-only : goal.returns-clause-only
returns-clause-only c = is_only c.args.line.now c.read_line.new.room c.read_line.result c.read_line.ensures.read
