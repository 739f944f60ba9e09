use Rattle.byte_origins.proofs.KeptOrigins.{back_kept}
use Rattle.byte_origins.proofs.laws.goes_back_whole.Goals as goal

pub returns : goal.returns
returns c = λ v is r k lt. back_kept v is is.rules k r lt
