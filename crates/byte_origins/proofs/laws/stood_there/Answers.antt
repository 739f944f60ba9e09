use Rattle.byte_origins.proofs.StoodThere.{stood}
use Rattle.byte_origins.proofs.laws.stood_there.Goals as goal

pub returns : goal.returns
returns c = stood
