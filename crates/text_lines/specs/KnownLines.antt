-- Lines of a text whose borders are known.
use Rattle.std.specs.Prelude.{◌≡◌, ◌⊎◌, ℕ, ◌+◌, ◌-◌, ◌^◌, ◌<◌, ◌≤◌, Bool, true, false, not, ◌&&◌, ◌==◌, nat_le, List, [], ◌∷◌, All, Contains, length, take, get_or, Option, Some, None}
use Rattle.std.specs.List.{AllZip, filter}
use Rattle.cord_search.specs.declared.runs.TheConstants.{PIECE}
use Rattle.command_parts.specs.Commands.{replaced}
use Rattle.text_lines.specs.declared.known.KnownLine.{KnownLine}
use Rattle.text_lines.specs.declared.known.TheConstants.{VERY_LONG}
use Rattle.text_lines.specs.declared.known_lines.KnownLines.{KnownLines}
use Rattle.text_lines.specs.declared.known_lines.TheConstants.{MOST_LINES}
use Rattle.text_lines.specs.Lines.{HasBreak, is_break}
use Rattle.text_lines.specs.Rows.{IsLineStart}

-- It begins at the text's start or behind a break, and no break stands in it; at its end stands one, or the text ends.
pub record IsLineOf (t : List ℕ) (line : KnownLine) : Type 0 where
  pub order : line.start ≤ line.end
  pub inside : line.end ≤ length t
  pub begins : IsLineStart t line.start
  pub plain : (k : ℕ) → line.start ≤ k → k < line.end → is_break (get_or t k 0) ≡ false
  pub ends : line.end < length t → is_break (get_or t line.end 0) ≡ true

-- the lines that are known
abbrev pub known_lines : KnownLines → List KnownLine
known_lines known = take known.count known.lines

-- they are lines of this text
pub record IsKnownIn (known : KnownLines) (t : List ℕ) : Type 0 where
  pub each : All (IsLineOf t) (known_lines known)

-- the line is longer than what is searched through at once, and count bytes from the place on lie in it; of none, the
-- place may be its end too
pub record IsAbout (place count : ℕ) (line : KnownLine) : Type 0 where
  pub long : PIECE < line.end - line.start
  pub from : line.start ≤ place
  pub to : place + count ≤ line.end

-- this line is such a line, and one of these, or of those that are known
abbrev pub HoldsLine : List KnownLine → ℕ → ℕ → KnownLine → Type 0
HoldsLine lines place count line = Contains lines line × IsAbout place count line

abbrev pub HoldsPart : KnownLines → ℕ → ℕ → KnownLine → Type 0
HoldsPart known place count line = HoldsLine (known_lines known) place count line

-- whether a line stays known behind this one: a very long one, and another
abbrev pub stays_beside : KnownLine → KnownLine → Bool
stays_beside line other = not (other.start == line.start) && nat_le VERY_LONG (other.end - other.start)

-- what is known behind a line that was shown, of these lines that were known before it
abbrev pub learnt : KnownLine → List KnownLine → List KnownLine
learnt line lines = take MOST_LINES (line ∷ filter (stays_beside line) lines)

-- a line that stays known when `put` bytes are put in at this place: it ends before the place, or begins behind it and
-- its end stays below 2^64
abbrev pub StaysPasted : ℕ → ℕ → KnownLine → Type 0
StaysPasted place put line =
    (line.end < place) ⊎ ((place < line.start) × (line.start ≤ line.end) × (line.end + put < 2 ^ 64))

-- a line that stays known when `count` bytes are taken out at this place: it ends before them, holds them all, or
-- begins behind them
abbrev pub StaysCut : ℕ → ℕ → KnownLine → Type 0
StaysCut place count line =
    (line.end < place) ⊎ ((line.start ≤ place) × (place + count ≤ line.end))
    ⊎ ((place + count < line.start) × (count ≤ line.end))

-- what a line of a text becomes where a byte is put in at this place: one of the text behind it, whatever the text is
abbrev pub IsTyped : ℕ → ℕ → KnownLine → KnownLine → Type 0
IsTyped place byte line later =
    (t : List ℕ) → place ≤ length t → IsLineOf t line → IsLineOf (replaced t place 0 (byte ∷ [])) later

-- what it becomes where these bytes go out
abbrev pub IsCut : ℕ → ℕ → KnownLine → KnownLine → Type 0
IsCut place count line later =
    (t : List ℕ) → place + count ≤ length t → IsLineOf t line → IsLineOf (replaced t place count []) later

-- what it becomes where any bytes of this number are put in
abbrev pub IsPasted : ℕ → ℕ → KnownLine → KnownLine → Type 0
IsPasted place put line later =
    (t bytes : List ℕ) → place ≤ length t → length bytes ≡ put → IsLineOf t line
    → IsLineOf (replaced t place 0 bytes) later

-- what it becomes where such bytes are put in, if none of them is a line break
abbrev pub IsWidened : ℕ → ℕ → KnownLine → KnownLine → Type 0
IsWidened place put line later =
    (t bytes : List ℕ) → place ≤ length t → length bytes ≡ put → ¬ HasBreak bytes → IsLineOf t line
    → IsLineOf (replaced t place 0 bytes) later

-- `after` is what a change makes of `before`, one by one: if `Makes` turns lines of t into lines of u and `before` are
-- lines of t, `after` are lines of u; and where it drops none of them, there is one for each, in order.
pub record ChangesLines (Makes : KnownLine → Option KnownLine → Type 0) (before after : List KnownLine) : Type 0 where
  pub lines : (t u : List ℕ) → ((line later : KnownLine) → Makes line (Some later) → IsLineOf t line → IsLineOf u later)
      → All (IsLineOf t) before → All (IsLineOf u) after
  pub each : All (λ line. ¬ Makes line None) before → AllZip (λ line later. Makes line (Some later)) before after
