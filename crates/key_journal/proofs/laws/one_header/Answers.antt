use Rattle.key_journal.proofs.Cuts.{one_of}
use Rattle.key_journal.proofs.laws.one_header.Goals as goal

pub returns : goal.returns
returns c = λ i j s t m n d e bytes small few len h k. one_of i j s t m n d e bytes small few len h k
