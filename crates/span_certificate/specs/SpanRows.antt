-- Rows for the first bytes of two spans.
use Rattle.std.specs.Prelude.{◌≡◌, ℕ, ◌-◌, ◌≤◌, List, map, take, drop, Some}
use Rattle.std.specs.List.{range_with_len}
use Rattle.function_leaf.specs.declared.coded.Coded.{Coded}
use Rattle.rope_node.specs.Table.{Table}
use Rattle.rope_node.specs.Denotes.{Cell, Byte, Place, cells}
use Rattle.rope_node.specs.declared.node.NodeId.{NodeId}
use Rattle.span_descent.specs.declared.description.Description.{Description}
use Rattle.span_descent.specs.declared.description.Description.TheVariants.{Pooled, Sourced, Computed}
use Rattle.command_parts.specs.declared.part.Part.{Part}
use Rattle.span_certificate.specs.declared.row.Row.{Row}
use Rattle.span_certificate.specs.declared.row.RowKind.{RowKind}
use Rattle.span_certificate.specs.declared.row.RowKind.TheVariants.{Shared, Leaf, Bytes}
use Rattle.rope_node.specs.declared.node.Span.{Span}
use Rattle.span_descent.specs.Leads.{Leads, HasDescription}
use Rattle.span_certificate.specs.Covers.{KindFits}
use Rattle.span_certificate.specs.declared.walk.TheConstants.{BYTES_LIMIT}

-- these cells are bytes
abbrev pub AreBytes : List Cell → Type 0
AreBytes cells = (bytes : List ℕ) × (cells ≡ map Byte bytes)

-- spans x and y have the same first n bytes by what the kind of row says, over any sources; and a row of bytes is over
-- bytes alone
abbrev pub SpansFit : Table → (ℕ → Coded) → Span → Span → ℕ → RowKind → Type 0
SpansFit t coded x y n (Shared k o) = Leads t n k.0 o x.node.0 x.start × Leads t n k.0 o y.node.0 y.start
SpansFit t coded x y n Leaf =
    (d : Description) × HasDescription t coded n x.node.0 x.start d × HasDescription t coded n y.node.0 y.start d
SpansFit t coded x y n Bytes = (n ≤ BYTES_LIMIT) × AreBytes (take n (drop y.start (cells t y.node.0)))

-- a row for the first bytes of both
pub record IsRowOf (t : Table) (coded : ℕ → Coded) (x y : Span) (row : Row) : Type 0 where
  pub some : 1 ≤ row.len
  pub few : row.len ≤ x.len
  pub fits : SpansFit t coded x y row.len row.kind

-- what n cells of this description are, as far as no function is asked
abbrev pub CellsAs : ℕ → Description → List Cell → Type 0
CellsAs n (Pooled a) cs = AreBytes cs
CellsAs n (Sourced s a) cs = cs ≡ map (Place s) (range_with_len a n)
CellsAs n (Computed f i) cs = AreBytes cs

-- a row for the first bytes of a leaf span of this description and of span y
abbrev pub DescribedFits : Table → (ℕ → Coded) → Description → Span → ℕ → RowKind → Type 0
DescribedFits t coded d y n (Shared k o) = ⊥
DescribedFits t coded d y n Leaf = HasDescription t coded n y.node.0 y.start d
DescribedFits t coded d y n Bytes = (n ≤ BYTES_LIMIT) × AreBytes (take n (drop y.start (cells t y.node.0)))

pub record IsDescribedRow (t : Table) (coded : ℕ → Coded) (d : Description) (y : Span) (row : Row) : Type 0 where
  pub some : 1 ≤ row.len
  pub few : row.len ≤ y.len
  pub fits : DescribedFits t coded d y row.len row.kind

-- a row for the first of the bytes of the part from off on and of the root from place on, over any sources; and a row
-- of bytes is over bytes alone
pub record IsNext (t : Table) (coded : ℕ → Coded) (part : Part) (off : ℕ) (root : NodeId) (place left : ℕ) (row : Row)
    : Type 0 where
  pub some : 1 ≤ row.len
  pub few : row.len ≤ left
  pub fits : (source : ℕ → ℕ → ℕ) → KindFits t coded source row.len part off (Some root) place row.kind
  pub bytes : row.kind ≡ Bytes → AreBytes (take row.len (drop place (cells t root.0)))
