-- All the places of a pattern, each behind the end of the one before, and their lines.
use Rattle.std.specs.Prelude.{◌≡◌, ◌↔◌, ℕ, ◌+◌, ◌<◌, max, List, [], ◌∷◌, ◌++◌, length, drop, Option, Some, None, Result, Ok, Err, IsErrOf}
use Rattle.std.specs.List.{flat_map}
use Rattle.std.specs.Io.KnownBytes.{Appends, Keeps}
use Rattle.byte_output.specs.Prefix.{AppendsPrefix}
use Rattle.lazy_file.specs.SourceTexts.{Stated}
use Rattle.lazy_file.specs.Readings.{Reading}
use Rattle.cord_search.specs.Places.{IsFirst, StandsAt}
use Rattle.cord_search.specs.declared.pattern.TheConstants.{PATTERN_LIMIT}
use Rattle.cord_tools.specs.Files.{OfFile, file_cells, place_line}
use Rattle.cord_tools.specs.Unread.{ToolReadsCells}
use Rattle.cord_tools.specs.declared.fault.ToolFault.{ToolFault}
use Rattle.cord_tools.specs.declared.fault.ToolFault.TheVariants.{Memory, Read, Write, PatternTooLong}
use Rattle.cord_tools.specs.declared.status.Status.{Status}
use Rattle.cord_tools.specs.declared.status.Status.TheVariants.{Success, Failure}

-- the place behind s where it stands at k; an empty s takes up one place, so that each place is one of its own
abbrev pub behind : List ℕ → ℕ → ℕ
behind s k = k + max 1 (length s)

-- These are all the places of s in t from start on, each behind the end of the one before: none, where s stands nowhere
-- from there on; else the first, and all those behind it.
abbrev pub AreAllPlaces : List ℕ → List ℕ → ℕ → List ℕ → Type 0
AreAllPlaces s t start [] = IsFirst s t start None
AreAllPlaces s t start (k ∷ ks) = IsFirst s t start (Some k) × AreAllPlaces s t (behind s k) ks

-- these are the first of them, or all
abbrev pub AreFirstPlaces : List ℕ → List ℕ → ℕ → List ℕ → Type 0
AreFirstPlaces s t start places = (rest : List ℕ) × AreAllPlaces s t start (places ++ rest)

-- a line for each place
abbrev pub place_lines : List ℕ → List ℕ
place_lines places = flat_map place_line places

-- whether there are places
abbrev pub places_status : List ℕ → Status
places_status [] = Failure
places_status (k ∷ ks) = Success

-- the pattern's first places in source 0 have lines of which P holds
abbrev pub OfFirstPlaces : Stated → ℕ → List ℕ → (List ℕ → Type 0) → Type 0
OfFirstPlaces st start pattern P =
    (places : List ℕ) × OfFile st 0 (λ t. AreFirstPlaces pattern t start places) × P (place_lines places)

-- The lines of all the pattern's places were written, and the status says whether there are any. Where the tool was
-- stopped, the lines of the first of them were written; where the writer failed, a prefix of such lines.
abbrev pub AnswersFindAll : Stated → ℕ → List ℕ → Option (List ℕ) → Option (List ℕ) → Result Status ToolFault → Type 0
AnswersFindAll st start pattern before after (Ok status) =
    (places : List ℕ) × OfFile st 0 (λ t. AreAllPlaces pattern t start places) × (status ≡ places_status places)
    × Appends before after (place_lines places)
AnswersFindAll st start pattern before after (Err Write) = OfFirstPlaces st start pattern (AppendsPrefix before after)
AnswersFindAll st start pattern before after (Err Read) = OfFirstPlaces st start pattern (Appends before after)
AnswersFindAll st start pattern before after (Err Memory) = OfFirstPlaces st start pattern (Appends before after)
AnswersFindAll st start pattern before after (Err PatternTooLong) = Keeps before after
AnswersFindAll st start pattern before after (Err other) = ⊥

-- The search reads source 0 from start on, refuses long patterns alone, and writes what its answer says.
pub record FindsAll (old new : Reading) (start : ℕ) (pattern : List ℕ) (before after : Option (List ℕ))
    (outcome : Result Status ToolFault) : Type 0 where
  pub reads : ToolReadsCells old new (drop start (file_cells old.stated.sizes 0)) outcome
  pub answer : AnswersFindAll old.stated start pattern before after outcome
  pub too_long : IsErrOf outcome PatternTooLong ↔ (PATTERN_LIMIT < length pattern)

-- ---- a search that has come to a place

-- where the places from next on are known, those from start on are these, and then they
abbrev pub LeadTo : List ℕ → List ℕ → ℕ → List ℕ → ℕ → Type 0
LeadTo s t start places next = (rest : List ℕ) → AreAllPlaces s t next rest → AreAllPlaces s t start (places ++ rest)

-- these are the lines of places that lead from first to next in each text in which the bytes stand at first
pub record FindsIn (s bytes : List ℕ) (first next : ℕ) (lines : List ℕ) : Type 0 where
  pub places : List ℕ
  pub lead : (t : List ℕ) → StandsAt bytes t first → LeadTo s t first places next
  pub told : lines ≡ place_lines places

-- the same of source 0
pub record FindsOn (st : Stated) (s : List ℕ) (start next : ℕ) (lines : List ℕ) : Type 0 where
  pub places : List ℕ
  pub lead : OfFile st 0 (λ t. LeadTo s t start places next)
  pub told : lines ≡ place_lines places
