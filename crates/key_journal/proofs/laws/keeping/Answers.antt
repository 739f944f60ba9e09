use Rattle.key_journal.proofs.Cuts.{stays_journal}
use Rattle.key_journal.proofs.laws.keeping.Goals as goal

pub returns : goal.returns
returns c = λ header bytes keys j. stays_journal header bytes keys j
