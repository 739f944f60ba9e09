-- How far a row goes: as far as both sides stay in what it is over. And rows that are made.
use Rattle.std.specs.Prelude.{◌≡◌, ℕ, ◌+◌, ◌<◌, ◌≤◌, min, List, length, Option, Some, None, IfSome, Result, IfOk, IsErrOf}
use Rattle.std.specs.Global.{Vec}
use Rattle.rope_node.specs.declared.node.NodeId.{NodeId}
use Rattle.rope_node.specs.Table.{Table}
use Rattle.command_parts.specs.declared.part.Part.{Part}
use Rattle.command_parts.specs.declared.part.Part.TheVariants.{Old, Pool, Source, Fill}
use Rattle.span_certificate.specs.declared.row.Row.{Row}
use Rattle.span_certificate.specs.declared.row.RowKind.{RowKind}
use Rattle.span_certificate.specs.declared.row.RowKind.TheVariants.{Shared, Leaf, Bytes}
use Rattle.rope_node.specs.declared.node.Span.{Span}
use Rattle.span_certificate.specs.declared.walk.TheConstants.{BYTES_LIMIT}
use Rattle.function_leaf.specs.declared.coded.Coded.{Coded}
use Rattle.rope_node.specs.Denotes.{rope_len, IsRope}
use Rattle.span_certificate.specs.declared.making.MakeFault.{MakeFault}
use Rattle.span_certificate.specs.declared.making.MakeFault.TheVariants.{TooManyRows}
use Rattle.span_certificate.specs.declared.making.TheConstants.{ROWS_LIMIT}
use Rattle.span_certificate.specs.Covers.{row_at, place_of, rows_len, Fits, CoversAlways, MeetsNoSource}
use Rattle.span_certificate.specs.PartLeads.{RopeLeads, PartLeads}
use Rattle.span_descent.specs.Leads.{Leads, LeadsToLeaf}
use Rattle.command_parts.specs.Parts.{part_at, part_len, IsPart}

-- the n bytes of node x from p on lie in one leaf
abbrev pub LieInLeaf : Table → ℕ → ℕ → ℕ → Type 0
LieInLeaf t n x p = (k : ℕ) × (o : ℕ) × LeadsToLeaf t n k o x p

-- the n bytes of a rope from p on lie in one leaf
abbrev pub RopeLiesInLeaf : Table → ℕ → Option NodeId → ℕ → Type 0
RopeLiesInLeaf t n None p = ⊥
RopeLiesInLeaf t n (Some x) p = LieInLeaf t n x.0 p

-- the n bytes of a part from off on lie in one leaf; a part of no earlier text is itself a leaf span
abbrev pub PartLiesInLeaf : Table → ℕ → Part → ℕ → Type 0
PartLiesInLeaf t n (Old rope i m) off = RopeLiesInLeaf t n rope (i + off)
PartLiesInLeaf t n (Pool a m) off = Unit {0}
PartLiesInLeaf t n (Source s m) off = Unit {0}
PartLiesInLeaf t n (Fill c m) off = Unit {0}

-- The n bytes of the part from off on and those of the root from place on stay in what a row of this kind is over: in
-- its node, or each in one leaf; and there are not too many for a row of bytes.
abbrev pub StayWithin : Table → ℕ → Part → ℕ → Option NodeId → ℕ → RowKind → Type 0
StayWithin t n part off root place (Shared k o) = PartLeads t n k.0 o part off × RopeLeads t n k.0 o root place
StayWithin t n part off root place Leaf = PartLiesInLeaf t n part off × RopeLiesInLeaf t n root place
StayWithin t n part off root place Bytes =
    (n ≤ BYTES_LIMIT) × PartLiesInLeaf t n part off × RopeLiesInLeaf t n root place

-- A row that stands at place goes to the end of its part, or no byte more stays within what it is over: where it is
-- over a node, one side leaves that; else a leaf span of either side ends, or a row of bytes is as long as it may be.
abbrev pub IsLongest : Table → List Part → Option NodeId → ℕ → Row → Type 0
IsLongest t parts root place row =
    IfSome (part_at parts place) (λ (at : Part × ℕ). at.1 + row.len < part_len at.0
    → ¬ StayWithin t (row.len + 1) at.0 at.1 root place row.kind)

-- each row does
abbrev pub AreLongest : Table → List Part → Option NodeId → List Row → Type 0
AreLongest t parts root rows = (j : ℕ) → j < length rows → IsLongest t parts root (place_of rows j) (row_at rows j)

-- rows for the first bytes of the parts and of the root, over any sources, each the longest
pub record AreMade (t : Table) (coded : ℕ → Coded) (parts : List Part) (root : Option NodeId) (rows : List Row)
    : Type 0 where
  pub fit : (source : ℕ → ℕ → ℕ) (j : ℕ) → j < length rows
      → Fits t coded source parts root (place_of rows j) (row_at rows j)
  pub no_source : MeetsNoSource t parts root rows
  pub longest : AreLongest t parts root rows
  pub in_root : rows_len rows ≤ rope_len t root

-- as many rows as there may be, and text is left
abbrev pub IsCutShort : Table → (ℕ → Coded) → List Part → Option NodeId → Type 0
IsCutShort t coded parts root =
    (rows : List Row) × AreMade t coded parts root rows × (length rows ≡ ROWS_LIMIT) × (rows_len rows < rope_len t root)

-- the longest rows that show, whatever the sources hold, that these parts have the root's text; or why there are none
pub record MakesRows (coded : ℕ → Coded) (t : Table) (parts : List Part) (root : Option NodeId)
    (result : Result (Vec Row) MakeFault) : Type 0 where
  pub covers : IfOk result (λ rows. CoversAlways t coded parts root rows.items)
  pub no_source : IfOk result (λ rows. MeetsNoSource t parts root rows.items)
  pub longest : IfOk result (λ rows. AreLongest t parts root rows.items)
  pub few : IfOk result (λ rows. length rows.items ≤ ROWS_LIMIT)
  pub too_many : IsErrOf result TooManyRows → IsCutShort t coded parts root

-- a row at place that is not empty, inside this part from off on and inside the root, which goes on as far as the part
pub record StandsInBoth (t : Table) (part : Part) (off : ℕ) (root : Option NodeId) (place : ℕ) (row : Row) : Type 0 where
  pub is_part : IsPart t part
  pub is_rope : IsRope t root
  pub some : 1 ≤ row.len
  pub inside_part : off + row.len ≤ part_len part
  pub inside_root : place + row.len ≤ rope_len t root
  pub goes_on : (n : ℕ) → off + n ≤ part_len part → place + n ≤ rope_len t root

-- ---- on the way down

-- the n first bytes of two spans stay so
abbrev pub SpansStayWithin : Table → ℕ → Span → Span → RowKind → Type 0
SpansStayWithin t n x y (Shared k o) = Leads t n k.0 o x.node.0 x.start × Leads t n k.0 o y.node.0 y.start
SpansStayWithin t n x y Leaf = LieInLeaf t n x.node.0 x.start × LieInLeaf t n y.node.0 y.start
SpansStayWithin t n x y Bytes =
    (n ≤ BYTES_LIMIT) × LieInLeaf t n x.node.0 x.start × LieInLeaf t n y.node.0 y.start

-- a row over two leaf spans of n bytes has as many, or as many as a row of bytes may have
abbrev pub GoesToLeafEnd : ℕ → ℕ → RowKind → Type 0
GoesToLeafEnd n len (Shared k o) = ⊥
GoesToLeafEnd n len Leaf = len ≡ n
GoesToLeafEnd n len Bytes = len ≡ min n BYTES_LIMIT
