use Rattle.commit_tools.proofs.CommitOrigins.{earlier_kept}
use Rattle.commit_tools.proofs.laws.keeps_earlier_origins.Goals as goal

pub returns : goal.returns
returns c = earlier_kept
