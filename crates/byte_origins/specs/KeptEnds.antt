-- What stays of a text's origins at its ends.
use Rattle.std.specs.Prelude.{◌≡◌, ℕ, List, ◌++◌, take, drop}
use Rattle.byte_origins.specs.declared.run.Origin.{Origin}

-- a newer text begins with an older one's origins up to place `front`, and ends with those from place `end` on
pub record KeepsOrigins (front end : ℕ) (old new : List Origin) : Type 0 where
  pub between : List Origin
  pub whole : new ≡ take front old ++ (between ++ drop end old)
