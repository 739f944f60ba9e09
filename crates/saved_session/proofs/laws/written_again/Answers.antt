use Rattle.saved_session.proofs.laws.written_again.Goals as goal

pub returns : goal.returns
returns c = λ x s made takes. takes.as_made made
