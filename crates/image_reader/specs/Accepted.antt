-- What an image needs to be accepted: rules of its sources, its nodes and its revisions, each by what is recorded.
use Rattle.std.specs.Prelude.{◌≡◌, ℕ, ◌<◌, true, false, List, length, map, take, drop, get_or, Option, None}
use Rattle.std.specs.List.{sum_by}
use Rattle.rope_node.specs.declared.node.NodeId.{NodeId}
use Rattle.rope_node.specs.Table.{Table, node_at, IsSoundNode, IsTrueNode}
use Rattle.rope_node.specs.Denotes.{Cell, rope_len, IsRope}
use Rattle.rope_node.specs.Balance.{IsBalancedRope}
use Rattle.command_parts.specs.Commands.{FullEdit, full_edit}
use Rattle.command_parts.specs.declared.edit.Edit.TheVariants.{New}
use Rattle.command_parts.specs.declared.part.Part.{Part}
use Rattle.span_certificate.specs.declared.row.Row.{Row}
use Rattle.command_parts.specs.Fields.{splices_of}
use Rattle.command_parts.specs.Parts.{parts_of, parts_len, IsInRange}
use Rattle.span_certificate.specs.Covers.{CoversBy, SameOver}
use Rattle.image_reader.specs.declared.revision.Revision.{Revision}
use Rattle.image_reader.specs.Value.{ImageValue, image_table, coded_at}

-- ---- sources and nodes

-- the sources handed in are as many and as long as the image says
abbrev pub HasSources : ImageValue → List ℕ → Type 0
HasSources v sizes = v.sources ≡ sizes

-- a node that breaks no rule
abbrev pub IsAcceptedNode : Table → ℕ → Type 0
IsAcceptedNode t id = IsSoundNode t id (node_at t id) × IsTrueNode t (node_at t id)

abbrev pub AreGoodNodes : Table → Type 0
AreGoodNodes t = (id : ℕ) → id < length t.nodes → IsAcceptedNode t id

-- ---- revisions

-- what is read past the end
abbrev pub no_revision : Revision
no_revision = record { edit = New; mark = false; root = None; rows = 0 }

-- revision k
abbrev pub revision_at : ImageValue → ℕ → Revision
revision_at v k = get_or v.revisions k no_revision

-- the roots of the revisions before k
abbrev pub roots_before : ImageValue → ℕ → List (Option NodeId)
roots_before v k = map (λ (r : Revision). r.root) (take k v.revisions)

-- what the command of revision k says
abbrev pub command_at : ImageValue → ℕ → FullEdit
command_at v k = full_edit v.splices (revision_at v k).edit

-- the parts of revision k's command
abbrev pub parts_at : ImageValue → ℕ → List Part
parts_at v k = parts_of (image_table v) (roots_before v k) (command_at v k)

-- how many splices the revisions before k have
abbrev pub splices_before : ImageValue → ℕ → ℕ
splices_before v k = sum_by (λ (r : Revision). splices_of r.edit) (take k v.revisions)

-- how many rows the revisions before k have
abbrev pub rows_before : ImageValue → ℕ → ℕ
rows_before v k = sum_by (λ (r : Revision). r.rows) (take k v.revisions)

-- the rows of revision k
abbrev pub rows_at : ImageValue → ℕ → List Row
rows_at v k = take (revision_at v k).rows (drop (rows_before v k) v.rows)

-- the root is nil or a node, and so long
abbrev pub HasGoodRoot : Table → Option NodeId → ℕ → Type 0
HasGoodRoot t root len = IsRope t root × (rope_len t root ≡ len)

-- a marked root is not nil, and balanced
abbrev pub HasGoodMark : Table → Revision → Type 0
HasGoodMark t r = r.mark ≡ true → IsBalancedRope t r.root

-- the command is in range, the root is as long as the command's parts, and a mark stands on a balanced root
pub record KeepsRules (v : ImageValue) (k : ℕ) : Type 0 where
  pub command : IsInRange (image_table v) (roots_before v k) (command_at v k)
  pub root : HasGoodRoot (image_table v) (revision_at v k).root (parts_len (parts_at v k))
  pub mark : HasGoodMark (image_table v) (revision_at v k)

-- its rows cover the command's parts and the root, where bytes are the same as Same says of their cells
abbrev pub HasGoodRows : ImageValue → (List Cell → List Cell → Type 0) → ℕ → Type 0
HasGoodRows v Same k = CoversBy (image_table v) (coded_at v) Same (parts_at v k) (revision_at v k).root (rows_at v k)

-- a revision that breaks no rule
pub record IsGoodRevision (v : ImageValue) (Same : List Cell → List Cell → Type 0) (k : ℕ) : Type 0 where
  pub rules : KeepsRules v k
  pub rows : HasGoodRows v Same k

abbrev pub AreGoodRevisions : ImageValue → (List Cell → List Cell → Type 0) → Type 0
AreGoodRevisions v Same = (k : ℕ) → k < length v.revisions → IsGoodRevision v Same k

-- ---- images

-- the image was made over sources of these lengths, its nodes are good, and its revisions
pub record IsAcceptedWith (v : ImageValue) (sizes : List ℕ) (Same : List Cell → List Cell → Type 0) : Type 0 where
  pub sources : HasSources v sizes
  pub nodes : AreGoodNodes (image_table v)
  pub revisions : AreGoodRevisions v Same

-- the same, whatever bytes the sources hold
abbrev pub IsAlwaysAccepted : ImageValue → List ℕ → Type 0
IsAlwaysAccepted v sizes = (source : ℕ → ℕ → ℕ) → IsAcceptedWith v sizes (SameOver source)
