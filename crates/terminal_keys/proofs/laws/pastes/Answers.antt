use Rattle.terminal_keys.proofs.PasteLaws.{ended, text_between_marks, text_is}
use Rattle.terminal_keys.proofs.laws.pastes.Goals as goal

pub returns-clause-ends : goal.returns-clause-ends
returns-clause-ends c = ended

pub returns-clause-text : goal.returns-clause-text
returns-clause-text c = text_between_marks

pub returns-clause-no_command : goal.returns-clause-no_command
returns-clause-no_command c = λ bytes. text_is 0 bytes
