use Rattle.session_server.proofs.Kept.{keeps_spoken}
use Rattle.session_server.proofs.laws.keeps_a_script.Goals as goal

pub returns : goal.returns
returns c = λ old new lines kept told inside h. keeps_spoken old new lines kept told inside h
