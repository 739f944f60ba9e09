use Rattle.line_server.proofs.Journals.{leaves_journal}
use Rattle.line_server.proofs.finding.leaves_a_journal.Goals as goal

pub returns : goal.returns
returns g c = λ old new lines kept told front n h. leaves_journal g.T.TakesLines.step old new lines kept told front n h
