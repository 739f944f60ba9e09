-- The byte at a place of a rope, over what the sources state.
use Rattle.std.specs.Prelude.{◌≡◌, ℕ, ◌<◌, ◌≤◌, true, List, Option, Some, None, Result, IsSome, slice_get, take, drop, All}
use Rattle.rope_node.specs.declared.node.NodeId.{NodeId}
use Rattle.rope_node.specs.Table.{Table}
use Rattle.rope_node.specs.Denotes.{Cell, Byte, Place, cell_at, cell_byte, cells, rope_cells, text}
use Rattle.lazy_file.specs.SourceTexts.{Stated, holds_span, text_at, Agrees}
use Rattle.lazy_file.specs.Readings.{fault_in, Reading, Reads}
use Rattle.lazy_file.specs.declared.faults.SourceFault.{SourceFault}

-- the source of a cell, if it has one, states its text
abbrev pub IsStated : Stated → Cell → Type 0
IsStated st (Byte b) = Unit {0}
IsStated st (Place s p) = IsSome (text_at st s)

-- a read of the cell cannot fail: it is a byte, or a place that the sources hold, and they never fail
abbrev pub IsReadable : Stated → Cell → Type 0
IsReadable st (Byte b) = Unit {0}
IsReadable st (Place s p) = (st.never_fails ≡ true) × (holds_span st s p 1 ≡ true)

-- the sources never fail, and are as many and as long as a table says
pub record AreOwn (st : Stated) (t : Table) : Type 0 where
  pub never_fails : st.never_fails ≡ true
  pub sizes : st.sizes ≡ t.sources

-- the byte that a stated cell stands for, whatever bytes the sources have that agree with what they state
abbrev pub IsByteOf : Stated → Cell → ℕ → Type 0
IsByteOf st cell b = (source : ℕ → ℕ → ℕ) → Agrees st source → IsStated st cell → b ≡ cell_byte source cell

-- the cell at a place of a rope
abbrev pub rope_cell : Table → Option NodeId → ℕ → Cell
rope_cell t None i = Byte 0
rope_cell t (Some id) i = cell_at t id.0 i

-- n of the cells of a leaf, or of a rope, from a place on, or as many as there are
abbrev pub leaf_part : Table → NodeId → ℕ → ℕ → List Cell
leaf_part t leaf start n = take n (drop start (cells t leaf.0))

abbrev pub rope_part : Table → Option NodeId → ℕ → ℕ → List Cell
rope_part t rope start n = take n (drop start (rope_cells t rope))

-- the byte at a place of the rope's text, where its cell is stated
abbrev pub IsFetched : Table → Stated → Option NodeId → ℕ → Option ℕ → Type 0
IsFetched t st rope i found =
    (source : ℕ → ℕ → ℕ) → Agrees st source → IsStated st (rope_cell t rope i)
    → found ≡ slice_get (text source (rope_cells t rope)) i

-- each cell's source, if it has one, states its text
abbrev pub AreStated : Stated → List Cell → Type 0
AreStated st cells = All (IsStated st) cells

-- each cell from place i up to place j, of a source, a leaf or a rope, whose cell at each place is given
abbrev pub EachCell : (ℕ → Cell) → ℕ → ℕ → (Cell → Type 0) → Type 0
EachCell cell i j P = (p : ℕ) → i ≤ p → p < j → P (cell p)

-- the places of sources among the cells from place i up to place j
abbrev pub InCells : (ℕ → Cell) → ℕ → ℕ → ℕ → ℕ → Type 0
InCells cell i j s p = (k : ℕ) × (i ≤ k) × (k < j) × (cell k ≡ Place s p)

-- what a call does that may read these cells
abbrev pub ReadsSpan : {X : Type 0} → Reading → Reading → (ℕ → Cell) → ℕ → ℕ → Result X SourceFault → Type 0
ReadsSpan before after cell i j outcome = Reads before after (InCells cell i j) (fault_in outcome)
