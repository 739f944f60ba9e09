-- Origins that are told one behind the other, in the room of a caller.
use Rattle.std.specs.Prelude.{◌≡◌, ◌↔◌, ◌⊎◌, ℕ, ◌+◌, ◌*◌, ◌-◌, ◌<◌, ◌≤◌, Bool, false, IsTrue, List, [], ◌∷◌, ◌++◌, length, map, take, drop, nat_lt, if◌then◌else◌}
use Rattle.std.specs.List.{sum_by}
use Rattle.image_reader.specs.Value.{ImageValue}
use Rattle.byte_origins.specs.declared.run.OriginRun.{OriginRun}
use Rattle.byte_origins.specs.declared.stretch.Stretch.{Stretch}
use Rattle.byte_origins.specs.Origins.{origins_at}
use Rattle.byte_origins.specs.StepsBack.{IsOriginAt}
use Rattle.byte_origins.specs.Stretches.{StandsFor, stretch_behind}
use Rattle.cord_types.specs.declared.origins.CordOrigin.{CordOrigin}
use Rattle.cord_c.specs.declared.waiting.TheConstants.{WAITING}
use Rattle.cord_types.specs.ToldOrigins.{IsToldOrigin}

-- ---- what is told

-- each is the origin of the byte behind those of the ones before it, the first that of the byte at this place
abbrev pub AreToldOrigins : ImageValue → ℕ → ℕ → List CordOrigin → Type 0
AreToldOrigins v k place [] = Unit {0}
AreToldOrigins v k place (x ∷ xs) = IsToldOrigin v k place x × AreToldOrigins v k (place + x.len) xs

-- the place behind the bytes of them all
abbrev pub told_end : ℕ → List CordOrigin → ℕ
told_end place [] = place
told_end place (x ∷ xs) = told_end (place + x.len) xs

-- The first so many of a room are told: they go to the end of the text, or fill half of the room.
pub record TellsRuns (v : ImageValue) (k place : ℕ) (room : List CordOrigin) (count : ℕ) : Type 0 where
  pub inside : count ≤ length room
  pub runs : AreToldOrigins v k place (take count room)
  pub most : (told_end place (take count room) ≡ length (origins_at v k)) ⊎ (length room ≤ 2 * count)

-- what is told of the bytes from a place on: whether there is such a byte, and then as many origins
pub record TellsOrigins (v : ImageValue) (k place : ℕ) (old new : List CordOrigin) (count : ℕ) (told : Bool) : Type 0 where
  pub there : IsTrue told ↔ (place < length (origins_at v k))
  pub runs : IsTrue told → TellsRuns v k place new count
  pub none : told ≡ false → (count ≡ 0) × (new ≡ old)

-- ---- stretches that wait

-- the numbers of a stretch that waits: its kind is none of an origin's
abbrev pub waiting_numbers : Stretch → CordOrigin
waiting_numbers x = record {
  revision = x.revision;
  kind = WAITING;
  source = x.first;
  byte = 0;
  place = x.place;
  start = 0;
  len = x.len;
}

abbrev pub stretch_of : CordOrigin → Stretch
stretch_of x = record { revision = x.revision; place = x.place; len = x.len; first = x.source }

-- those that wait in a room from a slot on
abbrev pub waits : List CordOrigin → ℕ → List Stretch
waits room left = map stretch_of (drop left room)

-- what lies behind the first n bytes of a stretch, where there is something
abbrev pub behind_of : Stretch → ℕ → List Stretch
behind_of x n = if nat_lt n x.len then stretch_behind x n ∷ [] else []

-- A slot in front of those that wait is free from then on, or none wait. Where none was free, the later half of them went.
pub record FreesSlot (old : List CordOrigin) (from left : ℕ) (new : List CordOrigin) (at : ℕ) : Type 0 where
  pub order : from ≤ at
  pub inside : at ≤ length old
  pub len : length new ≡ length old
  pub front : take from new ≡ take from old
  pub these : waits new at ≡ take (length old - at) (waits old left)
  pub free : (from < at) ⊎ (at ≡ length old)
  pub room : (at ≡ left) ⊎ (length old ≤ from + 2 * (length old - at) + 1)

-- Stretches are put in front of those that wait; where there was no slot for them, the later ones went, and those that
-- are left fill half of the room from a slot on.
pub record PutsInFront (xs : List Stretch) (old : List CordOrigin) (from left : ℕ) (new : List CordOrigin) (at : ℕ)
    : Type 0 where
  pub order : from ≤ at
  pub inside : at ≤ length old
  pub len : length new ≡ length old
  pub front : take from new ≡ take from old
  pub these : waits new at ≡ take (length old - at) (xs ++ waits old left)
  pub room : (at + length xs ≡ left) ⊎ (length old ≤ from + 2 * (length old - at))

-- each stands for the bytes behind those of the ones before it
abbrev pub StandInOrder : ImageValue → ℕ → ℕ → List Stretch → Type 0
StandInOrder v k place [] = Unit {0}
StandInOrder v k place (x ∷ xs) = StandsFor v k place x × StandInOrder v k (place + x.len) xs

-- so do those that wait, and they go to the end of the text, or with so many slots before them fill half of the room
pub record AreWaiting (v : ImageValue) (k place : ℕ) (xs : List Stretch) (from room : ℕ) : Type 0 where
  pub each : StandInOrder v k place xs
  pub enough : (place + sum_by (λ (x : Stretch). x.len) xs ≡ length (origins_at v k)) ⊎ (room ≤ 2 * (from + length xs))

-- The first run of a stretch is told, and what lies behind that waits: wherever the stretch and those that wait stand.
pub record TellsFirst (v : ImageValue) (x : Stretch) (old : List CordOrigin) (from left : ℕ) (new : List CordOrigin)
    (run : OriginRun) (at : ℕ) : Type 0 where
  pub order : from ≤ at
  pub inside : at ≤ length old
  pub len : length new ≡ length old
  pub front : take from new ≡ take from old
  pub tells : (k place : ℕ) → StandsFor v k place x → AreWaiting v k (place + x.len) (waits old left) from (length old)
      → IsOriginAt v k place run × AreWaiting v k (place + run.len) (waits new at) from (length old)
