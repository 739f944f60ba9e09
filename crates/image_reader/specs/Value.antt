-- What an image says, without how it is spelled.
use Rattle.std.specs.Prelude.{◌≡◌, ℕ, ◌+◌, ◌^◌, ◌<◌, ◌≤◌, List, [], ◌∷◌, length, map, get_or, Option, Some, None}
use Rattle.std.specs.List.{sum_by, AllByRecursion}
use Rattle.function_leaf.specs.declared.coded.Coded.{Coded}
use Rattle.function_leaf.specs.declared.coded.Coded.TheVariants.{Fill, Ramp, Cycle}
use Rattle.function_leaf.specs.Coded.{coded_byte}
use Rattle.function_leaf.specs.Optional.{answer_of, or_fill}
use Rattle.function_leaf.specs.Pattern.{IsPatternLength}
use Rattle.rope_node.specs.declared.node.NodeId.{NodeId}
use Rattle.rope_node.specs.declared.node.NodeView.{NodeView}
use Rattle.rope_node.specs.declared.node.NodeView.TheVariants.{Lit, Src, Fun, Cat, Sub}
use Rattle.rope_node.specs.Table.{Node, Table, no_node}
use Rattle.span_certificate.specs.declared.row.Row.{Row}
use Rattle.span_certificate.specs.declared.row.RowKind.{RowKind}
use Rattle.span_certificate.specs.declared.row.RowKind.TheVariants.{Shared, Leaf, Bytes}
use Rattle.command_parts.specs.declared.edit.Splice.{Splice}
use Rattle.command_parts.specs.Fields.{recorded, splices_of, FitsRecord, IsPlacedAt}
use Rattle.image_reader.specs.declared.revision.Revision.{Revision}
use Rattle.image_reader.specs.declared.version.FormatVersion.{FormatVersion}
use Rattle.image_reader.specs.declared.version.FormatVersion.TheVariants.{Two}
use Rattle.image_reader.specs.Layout.{IsBytes}
use Rattle.image_reader.specs.Versions.{last_code}
use Rattle.command_parts.specs.declared.edit.TheConstants.{MOST_REVISIONS, SPLICES_LIMIT}
use Rattle.image_reader.specs.declared.header.TheConstants.{MOST_POOL}
use Rattle.span_certificate.specs.declared.making.TheConstants.{ROWS_LIMIT}
use Rattle.image_reader.specs.declared.decode.TheConstants.{NIL_ROOT}
use Rattle.rope_node.specs.declared.limits.TheConstants.{MOST_NODES, MOST_SOURCES, TEXT_LIMIT}

-- a node, and the function that it holds where it is one
pub record ImageNode : Type 0 where
  pub node : Node
  pub function : Option Coded

-- the version, the sources' lengths, the nodes, the revisions, all their splices and rows in order, and the pool
pub record ImageValue : Type 0 where
  pub version : FormatVersion
  pub sources : List ℕ
  pub nodes : List ImageNode
  pub revisions : List Revision
  pub splices : List Splice
  pub rows : List Row
  pub pool : List ℕ

-- what is read past the end
abbrev pub no_image_node : ImageNode
no_image_node = record { node = no_node; function = None }

-- the function that a node holds
abbrev pub function_at : ImageValue → ℕ → Option Coded
function_at v id = (get_or v.nodes id no_image_node).function

-- the table of an image's nodes
abbrev pub image_table : ImageValue → Table
image_table v = record {
  nodes = map (λ (n : ImageNode). n.node) v.nodes;
  pool = v.pool;
  sources = v.sources;
  answer = λ id k. answer_of coded_byte (function_at v id) k;
}

-- the function at a node, where it is one
abbrev pub coded_at : ImageValue → ℕ → Coded
coded_at v id = or_fill (function_at v id)

-- a function's bytes fit, and a pattern has a length that it may have
abbrev pub FitsFunction : Coded → Type 0
FitsFunction (Fill c) = c < 256
FitsFunction (Ramp c) = c < 256
FitsFunction (Cycle pattern) = IsBytes pattern × IsPatternLength (length pattern)

-- Each number fits its field, and functions alone hold one.
abbrev pub FitsView : NodeView → Option Coded → Type 0
FitsView (Lit a) None = a < 2 ^ 64
FitsView (Lit a) (Some c) = ⊥
FitsView (Src s a) None = (s < 2 ^ 32) × (a < 2 ^ 64)
FitsView (Src s a) (Some c) = ⊥
FitsView Fun None = ⊥
FitsView Fun (Some c) = FitsFunction c
FitsView (Cat l r) None = (l.0 < 2 ^ 32) × (r.0 < 2 ^ 32)
FitsView (Cat l r) (Some c) = ⊥
FitsView (Sub b i) None = (b.0 < 2 ^ 32) × (i < 2 ^ 64)
FitsView (Sub b i) (Some c) = ⊥

pub record FitsNode (n : ImageNode) : Type 0 where
  pub view : FitsView n.node.view n.function
  pub len : n.node.len < 2 ^ 64
  pub depth : n.node.depth < 2 ^ 8

abbrev pub FitsRoot : Option NodeId → Type 0
FitsRoot None = Unit {0}
FitsRoot (Some id) = id.0 < NIL_ROOT

-- its command is one of the version; that, its root and its count of rows fit their fields
pub record FitsRevision (version : FormatVersion) (r : Revision) : Type 0 where
  pub known : (recorded r.edit).code ≤ last_code version
  pub edit : FitsRecord r.edit
  pub root : FitsRoot r.root
  pub rows : r.rows < 2 ^ 32

-- the splices of each command begin behind those of the commands before it
abbrev pub ArePlaced : ℕ → List Revision → Type 0
ArePlaced first [] = Unit {0}
ArePlaced first (r ∷ rs) = IsPlacedAt first r.edit × ArePlaced (first + splices_of r.edit) rs

-- each number of a splice fits its field
pub record FitsSplice (x : Splice) : Type 0 where
  pub p : x.p < 2 ^ 64
  pub m : x.m < 2 ^ 64
  pub a : x.a < 2 ^ 64
  pub n : x.n < 2 ^ 64

abbrev pub FitsKind : RowKind → Type 0
FitsKind (Shared k o) = (k.0 < 2 ^ 32) × (o < 2 ^ 64)
FitsKind Leaf = Unit {0}
FitsKind Bytes = Unit {0}

-- so do those of a row
pub record FitsRow (r : Row) : Type 0 where
  pub len : r.len < 2 ^ 64
  pub kind : FitsKind r.kind

abbrev pub FitsSource : ℕ → Type 0
FitsSource n = n < TEXT_LIMIT

-- what has a spelling
pub record IsImage (v : ImageValue) : Type 0 where
  pub sources : AllByRecursion FitsSource v.sources
  pub nodes : AllByRecursion FitsNode v.nodes
  pub revisions : AllByRecursion (FitsRevision v.version) v.revisions
  pub placed : ArePlaced 0 v.revisions
  pub splices : AllByRecursion FitsSplice v.splices
  pub rows : AllByRecursion FitsRow v.rows
  pub pool : IsBytes v.pool
  pub few_sources : length v.sources ≤ MOST_SOURCES
  pub few_nodes : length v.nodes ≤ MOST_NODES
  pub few_revisions : length v.revisions ≤ MOST_REVISIONS
  pub few_splices : length v.splices ≤ SPLICES_LIMIT
  pub few_rows : length v.rows ≤ ROWS_LIMIT
  pub small_pool : length v.pool ≤ MOST_POOL
  pub rows_counted : sum_by (λ (r : Revision). r.rows) v.revisions ≡ length v.rows
  pub splices_counted : sum_by (λ (r : Revision). splices_of r.edit) v.revisions ≡ length v.splices

-- the same image in version 2
abbrev pub in_version_two : ImageValue → ImageValue
in_version_two v = record {
  version = Two;
  sources = v.sources;
  nodes = v.nodes;
  revisions = v.revisions;
  splices = v.splices;
  rows = v.rows;
  pool = v.pool;
}
