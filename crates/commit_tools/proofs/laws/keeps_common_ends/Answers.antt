use Rattle.commit_tools.proofs.CommitOrigins.{ends_kept_in}
use Rattle.commit_tools.proofs.laws.keeps_common_ends.Goals as goal

pub returns : goal.returns
returns c = ends_kept_in
