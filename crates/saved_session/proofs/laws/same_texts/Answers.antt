use Rattle.saved_session.proofs.SameTexts.{same_commands, same_texts}
use Rattle.saved_session.proofs.laws.same_texts.Goals as goal

pub returns-clause-texts : goal.returns-clause-texts
returns-clause-texts c = same_texts

pub returns-clause-commands : goal.returns-clause-commands
returns-clause-commands c = same_commands
