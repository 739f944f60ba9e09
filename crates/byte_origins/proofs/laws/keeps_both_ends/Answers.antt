use Rattle.byte_origins.proofs.KeptOrigins.{ends_kept}
use Rattle.byte_origins.proofs.laws.keeps_both_ends.Goals as goal

pub returns : goal.returns
returns c = λ v is r front end splices k lt. ends_kept v is is.rules k r front end splices lt
