use Rattle.cord_tools.proofs.FurtherKeys.{keys_further}
use Rattle.cord_tools.proofs.laws.goes_further.Goals as goal

pub returns : goal.returns
returns c = λ old new keys plays. keys_further old.sources new.sources old.editing new.editing keys plays.behind plays.follow plays.last
