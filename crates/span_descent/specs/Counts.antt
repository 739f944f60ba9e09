-- When a count of looks may begin.
use Rattle.std.specs.Prelude.{◌≡◌, ℕ, ◌<◌}

-- a blank of this name and number of parts begins a count of the ledger
pub record BeginsCount (ledger_name ledger_parts name parts : ℕ) : Type 0 where
  pub same_name : name ≡ ledger_name
  pub same_parts : parts ≡ ledger_parts
  pub some : 0 < parts
