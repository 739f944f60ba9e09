use Rattle.key_journal.proofs.Cuts.{journal_cut}
use Rattle.key_journal.proofs.laws.crashes.Goals as goal

pub returns : goal.returns
returns c = λ header keys n on. journal_cut header keys n on
