-- All that commands brought, one behind the other.
use Rattle.std.specs.Prelude.{◌≡◌, ℕ, ◌+◌, List, [], ◌∷◌}
use Rattle.std.specs.List.{flat_map}
use Rattle.byte_origins.specs.declared.run.Origin.{Origin}
use Rattle.byte_origins.specs.declared.arrivals.Arrival.{Arrival}
use Rattle.byte_origins.specs.Origins.{run_origins}
use Rattle.byte_origins.specs.Behind.{FitsNumbers}

-- each tells how many bytes were brought before it, and the places of its run are numbers of 64 bits; `before` were
-- brought before the first
abbrev pub AreArrivals : ℕ → List Arrival → Type 0
AreArrivals before [] = Unit {0}
AreArrivals before (x ∷ xs) = (x.before ≡ before) × FitsNumbers x.run × AreArrivals (before + x.run.len) xs

-- the origins of all bytes that were brought
abbrev pub arrived : List Arrival → List Origin
arrived xs = flat_map (λ (x : Arrival). run_origins x.run) xs
