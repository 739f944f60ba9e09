use Rattle.session_server.proofs.Questions.{never_both}
use Rattle.session_server.proofs.laws.no_command_asks.Goals as goal

pub returns : goal.returns
returns c = λ line words known stands asked q h. never_both line words asked known stands q h
