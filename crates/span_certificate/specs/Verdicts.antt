-- What verifying tells of rows over what the sources state, and when it answers a source's fault.
use Rattle.std.specs.Prelude.{◌≡◌, ℕ, ◌+◌, ◌<◌, ◌≤◌, List, ◌++◌, length, Option, Some, Bool, IsTrue, Result, Ok, IfOk}
use Rattle.function_leaf.specs.declared.coded.Coded.{Coded}
use Rattle.rope_node.specs.declared.node.NodeId.{NodeId}
use Rattle.rope_node.specs.Table.{Table}
use Rattle.rope_node.specs.Denotes.{Cell, rope_cells, rope_len, text}
use Rattle.lazy_file.specs.SourceTexts.{Agrees, Stated}
use Rattle.lazy_file.specs.declared.faults.SourceFault.{SourceFault}
use Rattle.lazy_file.specs.Readings.{fault_in, Reading, Reads}
use Rattle.cord_position.specs.Fetched.{AreStated}
use Rattle.command_parts.specs.declared.part.Part.{Part}
use Rattle.span_certificate.specs.declared.row.Row.{Row}
use Rattle.span_certificate.specs.declared.row.RowKind.TheVariants.{Bytes}
use Rattle.span_certificate.specs.declared.walk.TheConstants.{BYTES_LIMIT}
use Rattle.command_parts.specs.Parts.{part_at, part_len, parts_cells}
use Rattle.span_certificate.specs.Covers.{MeetsNoSource, row_at, place_of, row_compares, SameOver, KindFitsBy, FitsBy, CoversBy, IsFirstBadBy, HaveSameBytes}
use Rattle.span_certificate.specs.declared.cover.Verdict.{Verdict}
use Rattle.span_certificate.specs.declared.cover.Verdict.TheVariants.{Good, Bad}
use Rattle.span_certificate.specs.Runs.{AmongCells}

-- Whether cells stand for the same bytes as others, over every reading of the sources that agrees with what they state:
-- where they state all these cells. Of others this says nothing.
abbrev pub SameStated : Stated → List Cell → List Cell → Type 0
SameStated st cells others =
    (source : ℕ → ℕ → ℕ) → Agrees st source → AreStated st (cells ++ others) → SameOver source cells others

-- whether they may: over some such reading, where the sources state all these cells
abbrev pub CanBeSame : Stated → List Cell → List Cell → Type 0
CanBeSame st cells others =
    AreStated st (cells ++ others) × ((source : ℕ → ℕ → ℕ) × Agrees st source × SameOver source cells others)

-- what the test of a row's kind tells: what is said to fit does, as far as the sources state it, and what may fit by
-- what they state is said to
pub record TellsKind (t : Table) (coded : ℕ → Coded) (st : Stated) (part : Part) (off : ℕ) (root : Option NodeId)
    (place : ℕ) (row : Row) (answer : Bool) : Type 0 where
  pub fits : IsTrue answer → KindFitsBy t coded (SameStated st) row.len part off root place row.kind
  pub may : KindFitsBy t coded (CanBeSame st) row.len part off root place row.kind → IsTrue answer

-- what the test of a whole row tells: one that is said to fit does, and one that may fit is said to
pub record TellsRow (t : Table) (coded : ℕ → Coded) (st : Stated) (parts : List Part) (root : Option NodeId) (place : ℕ)
    (row : Row) (answer : Bool) : Type 0 where
  pub fits : IsTrue answer → FitsBy t coded (SameStated st) parts root place row
  pub may : FitsBy t coded (CanBeSame st) parts root place row → IsTrue answer

-- What an answer tells. Good: the rows cover, each row of bytes as far as the sources state what it is over. Bad j: the
-- rows before j fit so; and row j does not, if it is of another kind, or of bytes all of which they state.
abbrev pub TellsRows : Table → (ℕ → Coded) → Stated → List Part → Option NodeId → List Row → Verdict → Type 0
TellsRows t coded st parts root rows Good = CoversBy t coded (SameStated st) parts root rows
TellsRows t coded st parts root rows (Bad j) = IsFirstBadBy t coded (SameStated st) (CanBeSame st) parts root rows j

-- The parts joined and the root have one text over any bytes of the sources over which each row of bytes has the same
-- bytes on both sides; and the same cells, where none is over a source.
pub record ShowsSame (t : Table) (parts : List Part) (root : Option NodeId) (rows : List Row) : Type 0 where
  pub same_text : (source : ℕ → ℕ → ℕ) → HaveSameBytes (SameOver source) t parts root rows
      → text source (parts_cells t parts) ≡ text source (rope_cells t root)
  pub same_cells : MeetsNoSource t parts root rows → parts_cells t parts ≡ rope_cells t root

-- A row at place for which a source may be read: one of bytes, not empty and no longer than such a row may be, inside
-- one part and inside the root. Any other row is judged without a read.
pub record MayBeRead (t : Table) (parts : List Part) (root : Option NodeId) (place : ℕ) (row : Row) : Type 0 where
  pub part : Part
  pub off : ℕ
  pub at_part : part_at parts place ≡ Some (part, off)
  pub not_empty : 1 ≤ row.len
  pub inside_part : off + row.len ≤ part_len part
  pub inside_root : place + row.len ≤ rope_len t root
  pub kind : row.kind ≡ Bytes
  pub few : row.len ≤ BYTES_LIMIT

-- a place that verifying asks for: row j compares it, which may be read, and each row before it fits as far as the
-- sources state it
pub record IsAskedFor (t : Table) (coded : ℕ → Coded) (st : Stated) (parts : List Part) (root : Option NodeId)
    (rows : List Row) (s p : ℕ) : Type 0 where
  pub j : ℕ
  pub inside : j < length rows
  pub may_be_read : MayBeRead t parts root (place_of rows j) (row_at rows j)
  pub compared : AmongCells (row_compares t parts root (place_of rows j) (row_at rows j)) s p
  pub fit : (i : ℕ) → i < j → FitsBy t coded (SameStated st) parts root (place_of rows i) (row_at rows i)

-- what verifying rows answers by what the sources state, what good rows show, and what it reads of the sources
pub record VerifiesRows (t : Table) (coded : ℕ → Coded) (parts : List Part) (root : Option NodeId) (rows : List Row)
    (before after : Reading) (outcome : Result Verdict SourceFault) : Type 0 where
  pub exact : IfOk outcome (TellsRows t coded before.stated parts root rows)
  pub shows : outcome ≡ Ok Good → ShowsSame t parts root rows
  pub reads : Reads before after (IsAskedFor t coded before.stated parts root rows) (fault_in outcome)
