-- Bytes of a text that are held, to look for line breaks among them.
use Rattle.std.specs.Prelude.{◌≡◌, ◌⊎◌, ℕ, ◌+◌, ◌-◌, ◌≤◌, nat_lt, if◌then◌else◌, List, [], length, take, drop, Option, IfSome}
use Rattle.rope_node.specs.declared.node.NodeId.{NodeId}
use Rattle.rope_node.specs.Table.{Table}
use Rattle.lazy_file.specs.Readings.{Reading}
use Rattle.cord_search.specs.Stated.{OfText}
use Rattle.text_lines.specs.declared.known_lines.KnownLines.{KnownLines}
use Rattle.text_lines.specs.KnownLines.{IsKnownIn}
use Rattle.text_lines.specs.Lines.{HasBreak}
use Rattle.text_lines.specs.Rows.{IsLineStart}

-- bytes from a place on; a place where a line begins; and lines that are known
pub record HeldPart : Type 0 where
  pub from : ℕ
  pub bytes : List ℕ
  pub begun : Option ℕ
  pub known : KnownLines

-- those before a place, or none where it is further than right behind the last one
abbrev pub held_up_to : HeldPart → ℕ → List ℕ
held_up_to held place = if nat_lt (held.from + length held.bytes) place then [] else take (place - held.from) held.bytes

-- those from a place on, or none where it is before the first one
abbrev pub held_starting_at : HeldPart → ℕ → List ℕ
held_starting_at held place = if nat_lt place held.from then [] else drop (place - held.from) held.bytes

-- they are bytes of this text, and these are lines of it
pub record AreHeld (held : HeldPart) (t : List ℕ) : Type 0 where
  pub inside : held.from + length held.bytes ≤ length t
  pub bytes : held.bytes ≡ take (length held.bytes) (drop held.from t)
  pub begun : IfSome held.begun (IsLineStart t)
  pub known : IsKnownIn held.known t

-- they are of a rope's text, whatever bytes the sources have that agree with what they state, where each cell is stated
pub record HoldsText (t : Table) (sources : Reading) (rope : Option NodeId) (held : HeldPart) : Type 0 where
  pub told : OfText t sources.stated rope (AreHeld held)

-- these bytes, which stand before a place, tell where its line begins: a line break is among them, or no more stand there
abbrev pub TellsStart : List ℕ → ℕ → Type 0
TellsStart bytes place = HasBreak bytes ⊎ (length bytes ≡ place)
