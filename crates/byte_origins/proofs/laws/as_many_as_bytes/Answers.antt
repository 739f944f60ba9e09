use Rattle.byte_origins.proofs.Lengths.{as_long}
use Rattle.byte_origins.proofs.laws.as_many_as_bytes.Goals as goal

pub returns : goal.returns
returns c = λ v is. as_long v is is.rules
