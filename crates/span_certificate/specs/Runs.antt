-- Runs of a part's bytes, and cells compared over what the sources state.
use Rattle.std.specs.Prelude.{◌≡◌, ◌↔◌, ℕ, ◌≤◌, Bool, IsTrue, List, ◌++◌, length, take, drop, get_or, Result}
use Rattle.rope_node.specs.Table.{Table}
use Rattle.rope_node.specs.Denotes.{Cell, Byte, text}
use Rattle.lazy_file.specs.SourceTexts.{Agrees, Stated}
use Rattle.lazy_file.specs.declared.faults.SourceFault.{SourceFault}
use Rattle.lazy_file.specs.Readings.{fault_in, Reading, Reads}
use Rattle.cord_position.specs.Fetched.{AreStated, InCells}
use Rattle.span_descent.specs.declared.description.Description.{Description}
use Rattle.span_descent.specs.declared.description.Description.TheVariants.{Pooled, Sourced, Computed}
use Rattle.command_parts.specs.declared.part.Part.{Part}
use Rattle.span_certificate.specs.declared.bytes.Run.{Run}
use Rattle.command_parts.specs.Parts.{part_cells}
use Rattle.span_descent.specs.Leads.{described_cells, HasRoom}

-- the first bytes of the next `left` ones of a part are those of a description
pub record IsRunOf (t : Table) (part : Part) (off left : ℕ) (run : Run) : Type 0 where
  pub some : 1 ≤ run.len
  pub few : run.len ≤ left
  pub cells : (n : ℕ) → n ≤ run.len → take n (drop off (part_cells t part)) ≡ described_cells t n run.what
  pub room : (n : ℕ) → n ≤ run.len → HasRoom t n run.what

-- whether these cells stand for the same bytes as the others, whatever bytes the sources have that agree with what they
-- state
abbrev pub TellsSame : Stated → List Cell → List Cell → Bool → Type 0
TellsSame st cells others answer =
    (source : ℕ → ℕ → ℕ) → Agrees st source → AreStated st (cells ++ others)
    → IsTrue answer ↔ (text source cells ≡ text source others)

-- the cell at a place of a list
abbrev pub listed_cell : List Cell → ℕ → Cell
listed_cell cells place = get_or cells place (Byte 0)

-- the places of sources among these cells
abbrev pub AmongCells : List Cell → ℕ → ℕ → Type 0
AmongCells cells s p = InCells (listed_cell cells) 0 (length cells) s p

-- what a call does that may read these cells
abbrev pub ReadsCells : {X : Type 0} → Reading → Reading → List Cell → Result X SourceFault → Type 0
ReadsCells before after cells outcome = Reads before after (AmongCells cells) (fault_in outcome)

-- bytes of this description are those of a source
abbrev pub IsSourced : Description → Type 0
IsSourced (Pooled a) = ⊥
IsSourced (Sourced s a) = Unit {0}
IsSourced (Computed f i) = ⊥
