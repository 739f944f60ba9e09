use Rattle.byte_origins.proofs.NamedBytes.{names_each}
use Rattle.byte_origins.proofs.laws.names_each_byte.Goals as goal

pub returns : goal.returns
returns c = names_each
