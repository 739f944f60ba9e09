-- The image of a session, what writing does, and why the image can be trusted.
use Rattle.std.specs.Prelude.{ℕ, ◌<◌, ◌↔◌, IsTrue, List, [], length, map, get_or, Option, Some, None, Result, OnOk, OnErr}
use Rattle.std.specs.List.{flat_map, range_with_len, AllByRecursion}
use Rattle.std.specs.Io.KnownBytes.{Appends}
use Rattle.function_leaf.specs.declared.coded.Coded.{Coded}
use Rattle.rope_node.specs.Table.{no_node}
use Rattle.rope_node.specs.declared.node.NodeView.{NodeView}
use Rattle.rope_node.specs.declared.node.NodeView.TheVariants.{Lit, Src, Fun, Cat, Sub}
use Rattle.node_table.specs.Held.{Held}
use Rattle.byte_output.specs.Prefix.{AppendsPrefix}
use Rattle.byte_output.specs.declared.writing.WriteFault.{WriteFault}
use Rattle.span_certificate.specs.declared.row.Row.{Row}
use Rattle.command_parts.specs.declared.edit.Edit.TheVariants.{New}
use Rattle.command_parts.specs.declared.edit.Splice.{Splice}
use Rattle.command_parts.specs.Fields.{FitsRecord}
use Rattle.span_certificate.specs.Covers.{MeetsNoSource}
use Rattle.span_certificate.specs.Longest.{AreLongest}
use Rattle.rope_node.specs.Balance.{IsBalancedRope}
use Rattle.edit_commands.specs.declared.revision.Revision as Kept
use Rattle.edit_commands.specs.Session.{SessionValue, edits_of}
use Rattle.image_reader.specs.declared.revision.Revision.{Revision}
use Rattle.image_reader.specs.declared.version.FormatVersion.TheVariants.{Two}
use Rattle.image_reader.specs.Value.{ImageNode, ImageValue, FitsFunction, FitsRow, FitsSplice, image_table}
use Rattle.image_reader.specs.Layout.{IsBytes}
use Rattle.image_reader.specs.Accepted.{IsAlwaysAccepted, revision_at, parts_at, rows_at}

-- each node with its function, where it is one
abbrev pub nodes_of : Held Coded → List ImageNode
nodes_of h =
    map (λ id. record { node = get_or h.nodes id no_node; function = get_or h.functions id None })
    (range_with_len 0 (length h.nodes))

-- a revision with the number of its rows
abbrev pub recorded_revision : Kept.Revision → Revision
recorded_revision r = record { edit = r.edit; mark = r.mark; root = r.root; rows = length r.rows.items }

-- all splices, those of revision k behind those of the revisions before it, and all rows
abbrev pub splices_in : List Kept.Revision → List Splice
splices_in revisions = flat_map (λ (r : Kept.Revision). r.splices.items) revisions

abbrev pub rows_in : List Kept.Revision → List Row
rows_in revisions = flat_map (λ (r : Kept.Revision). r.rows.items) revisions

-- the image of a session, in version 2
abbrev pub image_of : SessionValue → ImageValue
image_of v = record {
  version = Two;
  sources = v.held.sources;
  nodes = nodes_of v.held;
  revisions = map recorded_revision v.revisions;
  splices = splices_in v.revisions;
  rows = rows_in v.revisions;
  pool = v.held.pool.bytes;
}

-- the function of a node that is one fits
abbrev pub FitsHeld : NodeView → Option Coded → Type 0
FitsHeld (Lit a) function = Unit {0}
FitsHeld (Src s a) function = Unit {0}
FitsHeld Fun None = Unit {0}
FitsHeld Fun (Some c) = FitsFunction c
FitsHeld (Cat l r) function = Unit {0}
FitsHeld (Sub b i) function = Unit {0}

-- the first n nodes' functions fit
abbrev pub HoldsFit : Held Coded → ℕ → Type 0
HoldsFit h n = (id : ℕ) → id < n → FitsHeld (get_or h.nodes id no_node).view (get_or h.functions id None)

-- the numbers of the first n commands fit
abbrev pub EditsFit : List Kept.Revision → ℕ → Type 0
EditsFit revisions n = (k : ℕ) → k < n → FitsRecord (get_or (edits_of revisions) k New)

-- the functions, the numbers of commands, splices and rows, and the bytes of the pool fit
pub record SectionsFit (v : SessionValue) : Type 0 where
  pub functions : HoldsFit v.held (length v.held.nodes)
  pub edits : EditsFit v.revisions (length v.revisions)
  pub splices : AllByRecursion FitsSplice (splices_in v.revisions)
  pub rows : AllByRecursion FitsRow (rows_in v.revisions)
  pub pool : IsBytes v.held.pool.bytes

-- the rows of a revision, none where there is no such revision
abbrev pub rows_or_none : Option (List Row) → List Row
rows_or_none None = []
rows_or_none (Some rows) = rows

-- and its splices
abbrev pub splices_or_none : Option (List Splice) → List Splice
splices_or_none None = []
splices_or_none (Some splices) = splices

-- the bytes were written, or a prefix of them where the writer failed
pub record Writes (old new : Option (List ℕ)) (bytes : List ℕ) (result : Result (Unit {0}) WriteFault) : Type 0 where
  pub ok : OnOk result (Appends old new bytes)
  pub err : OnErr result (AppendsPrefix old new bytes)

-- Whatever bytes its sources hold, the image satisfies the rules of acceptance with sources of the session's number and
-- lengths, and no row that compares bytes is over a source.
pub record IsTrusted (v : SessionValue) : Type 0 where
  pub accepted : IsAlwaysAccepted (image_of v) v.held.sources
  pub no_source : (k : ℕ) → k < length v.revisions
      → MeetsNoSource (image_table (image_of v)) (parts_at (image_of v) k) (revision_at (image_of v) k).root
      (rows_at (image_of v) k)

-- a revision is as a session makes it: marked exactly, no row of bytes over a source, each row the longest
pub record IsAsMade (v : ImageValue) (k : ℕ) : Type 0 where
  pub mark : IsTrue (revision_at v k).mark ↔ IsBalancedRope (image_table v) (revision_at v k).root
  pub no_source : MeetsNoSource (image_table v) (parts_at v k) (revision_at v k).root (rows_at v k)
  pub longest : AreLongest (image_table v) (parts_at v k) (revision_at v k).root (rows_at v k)

abbrev pub AreAsMade : ImageValue → Type 0
AreAsMade v = (k : ℕ) → k < length v.revisions → IsAsMade v k
