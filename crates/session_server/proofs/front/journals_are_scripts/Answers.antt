use Rattle.session_server.proofs.Fronts.{says_behind}
use Rattle.session_server.proofs.front.journals_are_scripts.Goals as goal

pub returns : goal.returns
returns c = λ header text. says_behind header text
