-- Stretches of texts whose origins are still to be told.
use Rattle.std.specs.Prelude.{◌≡◌, ◌≢◌, ℕ, ◌+◌, ◌-◌, ◌<◌, ◌≤◌, List, [], ◌∷◌, ◌++◌, length, map, take, drop, slice_get, Option, Some, None, MatchOption, nat_lt, if◌then◌else◌}
use Rattle.std.specs.List.{range_with_len}
use Rattle.image_reader.specs.Value.{ImageValue}
use Rattle.command_parts.specs.declared.edit.Splice.{Splice}
use Rattle.image_reader.specs.Accepted.{revision_at, splices_before}
use Rattle.byte_origins.specs.declared.run.Origin.{Origin}
use Rattle.byte_origins.specs.declared.run.OriginRun.{OriginRun}
use Rattle.byte_origins.specs.declared.stretch.Stretch.{Stretch}
use Rattle.byte_origins.specs.Behind.{origin_behind}
use Rattle.byte_origins.specs.EarlierTexts.{len_of_text}
use Rattle.byte_origins.specs.Origins.{origins_at, run_origins}
use Rattle.byte_origins.specs.SplicedTexts.{StandsBeside, one_splice}
use Rattle.byte_origins.specs.declared.taking.CameFrom.TheVariants.{FromText}
use Rattle.byte_origins.specs.StepsBack.{CameTogether, IsFromText, step_back}

-- some bytes of a text, and how many splices the revisions before it have
pub record IsStretch (v : ImageValue) (x : Stretch) : Type 0 where
  pub there : x.revision < length v.revisions
  pub some : 1 ≤ x.len
  pub inside : x.place + x.len ≤ len_of_text v x.revision
  pub first : x.first ≡ splices_before v x.revision

-- its origins
abbrev pub stretch_origins : ImageValue → Stretch → List Origin
stretch_origins v x = take x.len (drop x.place (origins_at v x.revision))

-- those of all stretches that are left: the last one's come first
abbrev pub left_origins : ImageValue → List Stretch → List Origin
left_origins v [] = []
left_origins v (x ∷ xs) = left_origins v xs ++ stretch_origins v x

-- All bytes of a stretch stand side by side in an earlier text too, n of them there at least: as the other stretch.
pub record MovesWithin (v : ImageValue) (x y : Stretch) (n : ℕ) : Type 0 where
  pub step : IsFromText v x.revision x.place y.revision y.place n
  pub exact : step_back v x.revision x.place ≡ Some (FromText y.revision y.place n)
  pub whole : x.len ≤ n
  pub len : y.len ≡ x.len
  pub first : y.first ≡ splices_before v y.revision

-- so they do of so many
abbrev pub IsMoved : ImageValue → Stretch → Stretch → Type 0
IsMoved v x y = (n : ℕ) × MovesWithin v x y n

-- the command of its text puts one splice into an earlier one, and the stretch stands beside that
pub record IsBesideSplice (v : ImageValue) (x : Stretch) (r : ℕ) (s : Splice) : Type 0 where
  pub command : one_splice (revision_at v x.revision).edit ≡ Some (r, s)
  pub beside : StandsBeside s x.place x.len

-- what lies behind the first n bytes of a stretch
abbrev pub stretch_behind : Stretch → ℕ → Stretch
stretch_behind x n = record { revision = x.revision; place = x.place + n; len = x.len - n; first = x.first }

-- put back, where there is something
abbrev pub put_back : List Stretch → Stretch → ℕ → List Stretch
put_back xs x n = if nat_lt n x.len then xs ++ stretch_behind x n ∷ [] else xs

-- the rest of the text of revision k from a place on
pub record IsRestOf (v : ImageValue) (k place : ℕ) (x : Stretch) : Type 0 where
  pub is : IsStretch v x
  pub revision : x.revision ≡ k
  pub place_is : x.place ≡ place
  pub whole : x.place + x.len ≡ len_of_text v x.revision

-- A stretch stands for the bytes of text k from a place on: these have its origins, and came in together as far as its
-- own did.
pub record StandsFor (v : ImageValue) (k place : ℕ) (x : Stretch) : Type 0 where
  pub is : IsStretch v x
  pub same : take x.len (drop place (origins_at v k)) ≡ stretch_origins v x
  pub forth : (i n : ℕ) → i < x.len → CameTogether v n k (place + i)
      → (i + n ≤ x.len) × CameTogether v n x.revision (x.place + i)
  pub back : (i n : ℕ) → i < x.len → i + n ≤ x.len → CameTogether v n x.revision (x.place + i)
      → CameTogether v n k (place + i)

-- how many splices the revisions before each revision have
abbrev pub splice_starts : ImageValue → List ℕ
splice_starts v = map (splices_before v) (range_with_len 0 (length v.revisions))

-- ---- runs

-- the longest run that some origins begin with, and those behind it
pub record IsNextRun (old : List Origin) (run : OriginRun) (rest : List Origin) : Type 0 where
  pub some : 1 ≤ run.len
  pub whole : old ≡ run_origins run ++ rest
  pub apart : slice_get rest 0 ≢ Some (origin_behind run.first run.len)

-- the origins of a run that is found already, and those behind it
abbrev pub found_and_left : Option OriginRun → List Origin → List Origin
found_and_left (Some x) left = run_origins x ++ left
found_and_left None left = left

-- a run that is found has a byte; where none is found, none is left
abbrev pub IsNextFound : Option OriginRun → List Origin → Type 0
IsNextFound found left = MatchOption found (left ≡ []) (λ (x : OriginRun). 1 ≤ x.len)

-- a run that begins with these origins, as far as it is joined
pub record IsLengthening (first : OriginRun) (old : List Origin) (run : OriginRun) (left : List Origin) : Type 0 where
  pub some : 1 ≤ run.len
  pub same : run_origins first ++ old ≡ run_origins run ++ left
  pub room : run.len + length left ≡ first.len + length old

-- it does not go on in those behind it
pub record IsLongestRun (first : OriginRun) (left : List Origin) (run : OriginRun) (found : Option OriginRun) (rest : List Origin)
    : Type 0 where
  pub some : 1 ≤ run.len
  pub same : run_origins first ++ left ≡ run_origins run ++ found_and_left found rest
  pub apart : slice_get (found_and_left found rest) 0 ≢ Some (origin_behind run.first run.len)
  pub told : IsNextFound found rest

-- the image, and the origins that are left
pub record OriginsLeft : Type 0 where
  pub image : ImageValue
  pub left : List Origin
