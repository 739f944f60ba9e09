use Rattle.session_server.proofs.Kept.{keeps_spoken}
use Rattle.session_server.proofs.Recovered.{recovered}
use Rattle.session_server.proofs.laws.is_recovered.Goals as goal

pub returns : goal.returns
returns c = λ old new again lines kept told inside serves takes h k sources source.
    recovered old.session new.session again kept inside (keeps_spoken old new lines kept told inside serves) takes h k sources source
