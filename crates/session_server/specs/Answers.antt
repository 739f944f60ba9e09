-- What a question is answered.
use Rattle.std.specs.Prelude.{◌≡◌, ◌⊎◌, ◌==◌, ℕ, ◌+◌, ◌-◌, ◌<◌, ◌≤◌, nat_lt, if◌then◌else◌, List, [], ◌∷◌, ◌++◌, length, take, drop, codes, Option, Some, None}
use Rattle.std.specs.Fmt.{decimal}
use Rattle.rope_node.specs.declared.node.NodeId.{NodeId}
use Rattle.lazy_file.specs.declared.faults.SourceFault.{SourceFault}
use Rattle.lazy_file.specs.declared.faults.SourceFault.TheVariants as Read
use Rattle.lazy_file.specs.Faults.{source_fault_code}
use Rattle.lazy_file.specs.Readings.{Reading, Reads}
use Rattle.cord_position.specs.Fetched.{InCells, rope_cell}
use Rattle.cord_search.specs.declared.fault.FindFault.{FindFault}
use Rattle.cord_search.specs.declared.fault.FindFault.TheVariants as Search
use Rattle.cord_search.specs.declared.pattern.TheConstants.{PATTERN_LIMIT}
use Rattle.cord_search.specs.Stated.{FindsFirst, OfSpan}
use Rattle.command_parts.specs.Parts.{root_at}
use Rattle.edit_commands.specs.Session.{SessionValue, length_at, roots_of, session_table}
use Rattle.edit_script.specs.Words.{Number, Quoted, line_of, printed_word}
use Rattle.session_server.specs.declared.fault.AskFault.{AskFault}
use Rattle.session_server.specs.declared.fault.AskFault.TheVariants as Ask
use Rattle.session_server.specs.declared.question.Question.{Question}
use Rattle.session_server.specs.declared.question.Question.TheVariants.{Last, Length, Bytes, Find}

-- the root of a revision, nil where there is none
abbrev pub revision_root : SessionValue → ℕ → Option NodeId
revision_root v r = root_at (roots_of v.revisions) r

-- place i is in the text of revision r, or at its end
pub record IsInText (v : SessionValue) (r i : ℕ) : Type 0 where
  pub there : r < length v.revisions
  pub inside : i ≤ length_at v r

-- ---- refusals

-- how a read's fault is told; want of memory is told as such
abbrev pub read_code : SourceFault → List ℕ
read_code Read.Memory = codes "memory"
read_code fault = source_fault_code fault

-- why a question is not answered, as it is told
abbrev pub ask_code : AskFault → List ℕ
ask_code Ask.NoRevision = codes "E1"
ask_code Ask.Range = codes "E3"
ask_code Ask.PatternTooLong = codes "F1"
ask_code (Ask.Source fault) = read_code fault
ask_code Ask.Memory = codes "memory"

abbrev pub ask_refusal : AskFault → List ℕ
ask_refusal fault = codes "refused " ++ ask_code fault

-- the source's fault that a fault is, if it is one
abbrev pub ask_source_fault : AskFault → Option SourceFault
ask_source_fault (Ask.Source fault) = Some fault
ask_source_fault fault = None

-- a search's fault, told as one of a question
abbrev pub ask_fault : FindFault → AskFault
ask_fault Search.PatternTooLong = Ask.PatternTooLong
ask_fault (Search.Source fault) = Ask.Source fault
ask_fault Search.Memory = Ask.Memory

-- a question about the text of revision r, a place in it and a pattern may be answered
pub record IsAskable (v : SessionValue) (r i : ℕ) (pattern : List ℕ) : Type 0 where
  pub place : IsInText v r i
  pub short : length pattern ≤ PATTERN_LIMIT

-- why such a question is not: the first that there is of no such revision, a place that is not in its text, a pattern
-- that is too long; else a read failed, or memory was refused
abbrev pub IsAskFault : SessionValue → ℕ → ℕ → List ℕ → AskFault → Type 0
IsAskFault v r i pattern Ask.NoRevision = length v.revisions ≤ r
IsAskFault v r i pattern Ask.Range = (r < length v.revisions) × (length_at v r < i)
IsAskFault v r i pattern Ask.PatternTooLong = IsInText v r i × (PATTERN_LIMIT < length pattern)
IsAskFault v r i pattern (Ask.Source fault) = IsAskable v r i pattern
IsAskFault v r i pattern Ask.Memory = IsAskable v r i pattern

-- a read failed, or memory was refused
abbrev pub FailsToRead : AskFault → Type 0
FailsToRead (Ask.Source fault) = Unit {0}
FailsToRead Ask.Memory = Unit {0}
FailsToRead other = ⊥

-- the places of sources among the bytes of a text from place i up to place j
abbrev pub InBytes : SessionValue → ℕ → ℕ → ℕ → ℕ → ℕ → Type 0
InBytes v r i j s p = InCells (rope_cell (session_table v) (revision_root v r)) i j s p

-- a question about place p and a pattern is not answered; no bytes but those from place i up to place j were read for
-- it
pub record RefusesQuestion (before after : Reading) (v : SessionValue) (r p i j : ℕ) (pattern answer : List ℕ)
    : Type 0 where
  pub fault : AskFault
  pub is : IsAskFault v r p pattern fault
  pub reads : Reads before after (InBytes v r i j) (ask_source_fault fault)
  pub told : answer ≡ ask_refusal fault

-- ---- answers

-- the number of a revision, and how long its text is
abbrev pub length_answer : SessionValue → ℕ → List ℕ
length_answer v r =
    if nat_lt r (length v.revisions) then line_of (Number r ∷ Number (length_at v r) ∷ [])
    else ask_refusal Ask.NoRevision

-- the last revision and how long its text is, or none
abbrev pub last_answer : SessionValue → List ℕ
last_answer v = if length v.revisions == 0 then codes "none" else length_answer v (length v.revisions - 1)

-- n bytes of the text from place i on, in quotes
pub record TellsBytes (before after : Reading) (v : SessionValue) (r i n : ℕ) (answer : List ℕ) : Type 0 where
  pub inside : IsInText v r (i + n)
  pub same : after ≡ before
  pub part : OfSpan (session_table v) before.stated (revision_root v r) i (i + n)
      (λ u. answer ≡ printed_word (Quoted (take n (drop i u))))

-- a place, or none
abbrev pub place_answer : Option ℕ → List ℕ
place_answer (Some k) = decimal k
place_answer None = codes "none"

-- the first place from place i on at which the pattern stands, or none
pub record TellsPlace (before after : Reading) (v : SessionValue) (r i : ℕ) (pattern answer : List ℕ) : Type 0 where
  pub askable : IsAskable v r i pattern
  pub same : after ≡ before
  pub found : Option ℕ
  pub first : FindsFirst (session_table v) before.stated (revision_root v r) pattern i found
  pub told : answer ≡ place_answer found

-- what a question about n bytes from place i on is answered
abbrev pub IsBytesAnswer : SessionValue → Reading → ℕ → ℕ → ℕ → List ℕ → Reading → Type 0
IsBytesAnswer v before r i n answer after =
    TellsBytes before after v r i n answer ⊎ RefusesQuestion before after v r (i + n) i (i + n) [] answer

-- what a question about a pattern from place i on is answered
abbrev pub IsPlaceAnswer : SessionValue → Reading → List ℕ → ℕ → ℕ → List ℕ → Reading → Type 0
IsPlaceAnswer v before pattern r i answer after =
    TellsPlace before after v r i pattern answer ⊎ RefusesQuestion before after v r i i (length_at v r) pattern answer

-- What a question is answered, and what is read for it. Sync, save and quit are none of the session.
abbrev pub IsAnswer : SessionValue → Reading → List ℕ → Question → List ℕ → Reading → Type 0
IsAnswer v before pattern Last answer after = (answer ≡ last_answer v) × (after ≡ before)
IsAnswer v before pattern (Length r) answer after = (answer ≡ length_answer v r) × (after ≡ before)
IsAnswer v before pattern (Bytes r i n) answer after = IsBytesAnswer v before r i n answer after
IsAnswer v before pattern (Find r i) answer after = IsPlaceAnswer v before pattern r i answer after
IsAnswer v before pattern other answer after = ⊥
