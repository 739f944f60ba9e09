use Rattle.session_server.proofs.Questions.{is_found, is_only}
use Rattle.session_server.proofs.question.asked.Goals as goal

pub returns-clause-found : goal.returns-clause-found
returns-clause-found c = is_found c.args.line.now c.read_question.new.room.items c.read_question.result c.read_question.ensures

pub returns-clause-only : goal.returns-clause-only
returns-clause-only c = is_only c.args.line.now c.read_question.new.room.items c.read_question.result c.read_question.ensures
