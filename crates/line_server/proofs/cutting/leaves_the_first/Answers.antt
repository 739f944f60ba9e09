use Rattle.line_server.proofs.Cuts.{leaves}
use Rattle.line_server.proofs.cutting.leaves_the_first.Goals as goal

pub returns : goal.returns
returns g c = λ old new lines kept told n h. leaves g.T.TakesLines.step old new lines kept told h n
