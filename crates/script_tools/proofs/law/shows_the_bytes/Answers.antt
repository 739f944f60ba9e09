use Rattle.script_tools.proofs.ShownBytes.{shows}
use Rattle.script_tools.proofs.law.shows_the_bytes.Goals as goal

pub returns : goal.returns
returns c = shows
