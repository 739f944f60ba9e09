-- When rows cover the parts of a command and a root, and which row is the first that does not fit.
use Rattle.std.specs.Prelude.{◌≡◌, ℕ, ◌+◌, ◌≤◌, ◌<◌, List, [], ◌++◌, length, take, drop, get_or, Option, Some, All}
use Rattle.std.specs.List.{sum_by}
use Rattle.function_leaf.specs.declared.coded.Coded.{Coded}
use Rattle.rope_node.specs.declared.node.NodeId.{NodeId}
use Rattle.rope_node.specs.Table.{Table}
use Rattle.rope_node.specs.Denotes.{Cell, Byte, Place, rope_len, rope_cells, text}
use Rattle.span_descent.specs.declared.description.Description.{Description}
use Rattle.command_parts.specs.declared.part.Part.{Part}
use Rattle.span_certificate.specs.declared.row.Row.{Row}
use Rattle.span_certificate.specs.declared.row.RowKind.{RowKind}
use Rattle.span_certificate.specs.declared.row.RowKind.TheVariants.{Shared, Leaf, Bytes}
use Rattle.command_parts.specs.Parts.{part_at, part_len, parts_len, part_cells, parts_cells}
use Rattle.span_certificate.specs.PartLeads.{RopeLeads, PartLeads, RopeHasDescription, PartHasDescription}
use Rattle.span_certificate.specs.declared.walk.TheConstants.{BYTES_LIMIT}

-- what is read past the last row
abbrev pub no_row : Row
no_row = record { len = 0; kind = Leaf }

-- row j
abbrev pub row_at : List Row → ℕ → Row
row_at rows j = get_or rows j no_row

-- how many bytes rows stand for together
abbrev pub rows_len : List Row → ℕ
rows_len rows = sum_by (λ (r : Row). r.len) rows

-- where row j stands: behind the rows before it
abbrev pub place_of : List Row → ℕ → ℕ
place_of rows j = rows_len (take j rows)

-- n bytes of two parts lead to leaf spans of one description
abbrev pub HaveOneDescription : Table → (ℕ → Coded) → ℕ → Part → ℕ → Part → ℕ → Type 0
HaveOneDescription t coded n part off other place =
    (d : Description) × PartHasDescription t coded n part off d × PartHasDescription t coded n other place d

-- whether cells stand for the same bytes as others, over these bytes of the sources
abbrev pub SameOver : (ℕ → ℕ → ℕ) → List Cell → List Cell → Type 0
SameOver source cells others = text source cells ≡ text source others

-- The n bytes of the part from off on and those of the root from place on are the same by what the kind of row says;
-- for a row of bytes, as Same says of their cells.
abbrev pub KindFitsBy : Table → (ℕ → Coded) → (List Cell → List Cell → Type 0) → ℕ → Part → ℕ → Option NodeId → ℕ
    → RowKind → Type 0
KindFitsBy t coded Same n part off root place (Shared k o) =
    PartLeads t n k.0 o part off × RopeLeads t n k.0 o root place
KindFitsBy t coded Same n part off root place Leaf =
    (d : Description) × PartHasDescription t coded n part off d × RopeHasDescription t coded n root place d
KindFitsBy t coded Same n part off root place Bytes =
    (n ≤ BYTES_LIMIT) × Same (take n (drop off (part_cells t part))) (take n (drop place (rope_cells t root)))

-- a row that stands at place is not empty, lies inside one part and inside the root, and fits by its kind
pub record FitsBy (t : Table) (coded : ℕ → Coded) (Same : List Cell → List Cell → Type 0) (parts : List Part)
    (root : Option NodeId) (place : ℕ) (row : Row) : Type 0 where
  pub part : Part
  pub off : ℕ
  pub at_part : part_at parts place ≡ Some (part, off)
  pub not_empty : 1 ≤ row.len
  pub inside_part : off + row.len ≤ part_len part
  pub inside_root : place + row.len ≤ rope_len t root
  pub kind : KindFitsBy t coded Same row.len part off root place row.kind

-- each row fits where it stands, and together they are as long as the root and as the parts
pub record CoversBy (t : Table) (coded : ℕ → Coded) (Same : List Cell → List Cell → Type 0) (parts : List Part)
    (root : Option NodeId) (rows : List Row) : Type 0 where
  pub fit : (j : ℕ) → j < length rows → FitsBy t coded Same parts root (place_of rows j) (row_at rows j)
  pub whole_root : rows_len rows ≡ rope_len t root
  pub whole_parts : rows_len rows ≡ parts_len parts

-- j is the first row that does not fit, or the number of rows where they leave something uncovered; the rows before j
-- are the same as Same says, and row j cannot be as CanBeSame says
pub record IsFirstBadBy (t : Table) (coded : ℕ → Coded) (Same CanBeSame : List Cell → List Cell → Type 0)
    (parts : List Part) (root : Option NodeId) (rows : List Row) (j : ℕ) : Type 0 where
  pub before : (i : ℕ) → i < j → FitsBy t coded Same parts root (place_of rows i) (row_at rows i)
  pub at_most : j ≤ length rows
  pub unfit : j < length rows → ¬ FitsBy t coded CanBeSame parts root (place_of rows j) (row_at rows j)
  pub uncovered : j ≡ length rows → ¬ ((rows_len rows ≡ rope_len t root) × (rows_len rows ≡ parts_len parts))

-- all of them over the bytes that source gives for the sources
abbrev pub KindFits : Table → (ℕ → Coded) → (ℕ → ℕ → ℕ) → ℕ → Part → ℕ → Option NodeId → ℕ → RowKind → Type 0
KindFits t coded source n part off root place kind = KindFitsBy t coded (SameOver source) n part off root place kind

abbrev pub Fits : Table → (ℕ → Coded) → (ℕ → ℕ → ℕ) → List Part → Option NodeId → ℕ → Row → Type 0
Fits t coded source parts root place row = FitsBy t coded (SameOver source) parts root place row

abbrev pub Covers : Table → (ℕ → Coded) → (ℕ → ℕ → ℕ) → List Part → Option NodeId → List Row → Type 0
Covers t coded source parts root rows = CoversBy t coded (SameOver source) parts root rows

abbrev pub IsFirstBad : Table → (ℕ → Coded) → (ℕ → ℕ → ℕ) → List Part → Option NodeId → List Row → ℕ → Type 0
IsFirstBad t coded source parts root rows j = IsFirstBadBy t coded (SameOver source) (SameOver source) parts root rows j

-- whatever bytes the sources hold
abbrev pub CoversAlways : Table → (ℕ → Coded) → List Part → Option NodeId → List Row → Type 0
CoversAlways t coded parts root rows = (source : ℕ → ℕ → ℕ) → Covers t coded source parts root rows

-- whatever bytes are the same: each row is over what its kind says, and they reach both ends
abbrev pub CoversAnyhow : Table → (ℕ → Coded) → List Part → Option NodeId → List Row → Type 0
CoversAnyhow t coded parts root rows = CoversBy t coded (λ cells others. Unit {0}) parts root rows

-- the cells that a row compares: if it is one of bytes those of both sides, and else none
abbrev pub compared : RowKind → List Cell → List Cell → List Cell
compared (Shared k o) cells others = []
compared Leaf cells others = []
compared Bytes cells others = cells ++ others

-- the cells that a row compares which stands off things inside a part, and at place of the root
abbrev pub kind_compares : Table → Part → ℕ → Option NodeId → ℕ → Row → List Cell
kind_compares t part off root place row =
    compared row.kind (take row.len (drop off (part_cells t part))) (take row.len (drop place (rope_cells t root)))

-- the cells that a row at a place of the parts and of the root compares
abbrev pub row_compares : Table → List Part → Option NodeId → ℕ → Row → List Cell
row_compares t parts root place row =
    compared row.kind (take row.len (drop place (parts_cells t parts))) (take row.len (drop place (rope_cells t root)))

-- the cells of each row of bytes in the parts and those in the root are the same as Same says
abbrev pub HaveSameBytes : (List Cell → List Cell → Type 0) → Table → List Part → Option NodeId → List Row → Type 0
HaveSameBytes Same t parts root rows =
    (j : ℕ) → j < length rows → (row_at rows j).kind ≡ Bytes
    → Same (take (row_at rows j).len (drop (place_of rows j) (parts_cells t parts)))
    (take (row_at rows j).len (drop (place_of rows j) (rope_cells t root)))

-- each row compares only such cells
abbrev pub ComparesOnly : (Cell → Type 0) → Table → List Part → Option NodeId → List Row → Type 0
ComparesOnly P t parts root rows =
    (j : ℕ) → j < length rows → All P (row_compares t parts root (place_of rows j) (row_at rows j))

-- a cell that is a byte, and no place of a source
abbrev pub IsByte : Cell → Type 0
IsByte (Byte b) = Unit {0}
IsByte (Place s p) = ⊥

-- no row of bytes stands over a source, in the parts or in the root
abbrev pub MeetsNoSource : Table → List Part → Option NodeId → List Row → Type 0
MeetsNoSource t parts root rows = ComparesOnly IsByte t parts root rows
