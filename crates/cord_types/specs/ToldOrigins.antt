-- Where a byte comes from, as numbers.
use Rattle.std.specs.Prelude.{◌≡◌, ℕ}
use Rattle.byte_origins.specs.declared.run.Brought.{Brought}
use Rattle.byte_origins.specs.declared.run.Brought.TheVariants.{Pool, Source, Fill}
use Rattle.byte_origins.specs.declared.run.OriginRun.{OriginRun}
use Rattle.byte_origins.specs.StepsBack.{IsOriginAt}
use Rattle.image_reader.specs.Value.{ImageValue}
use Rattle.cord_types.specs.declared.origins.CordOrigin.{CordOrigin}
use Rattle.cord_types.specs.declared.origins.TheConstants.{FILLED}
use Rattle.cord_types.specs.declared.run.TheConstants.{POOLED, SOURCED}

-- the numbers of n bytes that are brought so by revision k, at this place of its text
abbrev pub origin_numbers : Brought → ℕ → ℕ → ℕ → CordOrigin
origin_numbers (Pool a) k place n =
    record { revision = k; kind = POOLED; source = 0; byte = 0; place = place; start = a; len = n }
origin_numbers (Source s p) k place n =
    record { revision = k; kind = SOURCED; source = s; byte = 0; place = place; start = p; len = n }
origin_numbers (Fill c) k place n =
    record { revision = k; kind = FILLED; source = 0; byte = c; place = place; start = 0; len = n }

-- The numbers are those of the run that stands among the origins of revision k's text at this place, as far as its bytes
-- came in together.
pub record IsToldOrigin (v : ImageValue) (k place : ℕ) (x : CordOrigin) : Type 0 where
  pub run : OriginRun
  pub stands : IsOriginAt v k place run
  pub told : x ≡ origin_numbers run.first.brought run.first.revision run.first.place run.len
