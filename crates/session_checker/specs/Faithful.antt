-- What an accepted image is: each revision's root denotes the text that the commands give, and each record is true.
use Rattle.std.specs.Prelude.{◌≡◌, ℕ, ◌<◌, Bool, List, [], length, map, take, get_or, slice_get, Option, Some}
use Rattle.std.specs.List.{range_with_len}
use Rattle.rope_node.specs.declared.node.NodeId.{NodeId}
use Rattle.rope_node.specs.Table.{len_at, IsSound, HasTrueRecords}
use Rattle.rope_node.specs.Denotes.{Cell, cells, rope_cells, IsRope, text}
use Rattle.rope_node.specs.Path.{rope_visits}
use Rattle.command_parts.specs.Commands.{FullEdit, full_edit, Givens, result_of}
use Rattle.command_parts.specs.Parts.{givens_of}
use Rattle.lazy_file.specs.SourceTexts.{Agrees, Stated}
use Rattle.cord_position.specs.Fetched.{IsStated, rope_cell}
use Rattle.image_reader.specs.declared.revision.Revision.{Revision}
use Rattle.image_reader.specs.Value.{ImageValue, image_table}
use Rattle.image_reader.specs.Accepted.{revision_at, HasGoodMark, KeepsRules}
use Rattle.span_certificate.specs.Covers.{SameOver}
use Rattle.span_certificate.specs.Verdicts.{SameStated}
use Rattle.session_checker.specs.RevisionRules.{HasSameBytes, HasRowsOverNoSource}

-- the text of source s, over the sources' bytes
abbrev pub source_text : ImageValue → (ℕ → ℕ → ℕ) → ℕ → List ℕ
source_text v source s = map (source s) (range_with_len 0 (get_or v.sources s 0))

-- what the commands take from outside the earlier texts
abbrev pub givens : ImageValue → (ℕ → ℕ → ℕ) → Givens ℕ
givens v source = record {
  pool = v.pool;
  sources = map (source_text v source) (range_with_len 0 (length v.sources));
  byte = λ b. b;
}

-- what the commands of all revisions say
abbrev pub commands : ImageValue → List FullEdit
commands v = map (λ (r : Revision). full_edit v.splices r.edit) v.revisions

-- the cells of each revision's root
abbrev pub texts_cells : ImageValue → List (List Cell)
texts_cells v = map (λ (r : Revision). rope_cells (image_table v) r.root) v.revisions

-- the text of each revision's root, over the sources' bytes
abbrev pub texts : ImageValue → (ℕ → ℕ → ℕ) → List (List ℕ)
texts v source = map (λ (r : Revision). text source (rope_cells (image_table v) r.root)) v.revisions

-- the text of revision k, where there is one
abbrev pub revision_text : ImageValue → (ℕ → ℕ → ℕ) → ℕ → List ℕ
revision_text v source k = get_or (texts v source) k []

-- the root of revision k, which is there, and which is nil or a node
abbrev pub IsRootOf : ImageValue → ℕ → Option NodeId → Type 0
IsRootOf v k root = (k < length v.revisions) × (root ≡ (revision_at v k).root) × IsRope (image_table v) root

-- the mark of revision k, which is there
abbrev pub IsMarkOf : ImageValue → ℕ → Bool → Type 0
IsMarkOf v k mark = (k < length v.revisions) × (mark ≡ (revision_at v k).mark)

-- the cell at i of revision k's root
abbrev pub fetched_cell : ImageValue → ℕ → ℕ → Cell
fetched_cell v k i = rope_cell (image_table v) (revision_at v k).root i

-- the byte at i of revision k's text, where the source of its cell, if it has one, states its text
abbrev pub IsFetchedOf : ImageValue → Stated → ℕ → ℕ → Option ℕ → Type 0
IsFetchedOf v stated k i found =
    (source : ℕ → ℕ → ℕ) → Agrees stated source → IsStated stated (fetched_cell v k i)
    → found ≡ slice_get (revision_text v source k) i

-- how many nodes are visited for the byte at i of revision k's text
abbrev pub fetch_visits : ImageValue → ℕ → ℕ → ℕ
fetch_visits v k i = rope_visits (image_table v) (revision_at v k).root i

-- each record is true, whatever the sources are
pub record HasTrueRecordsOf (v : ImageValue) : Type 0 where
  -- each child is an earlier node, each span lies inside, no length or depth is over its limit
  pub sound : IsSound (image_table v)
  -- each recorded length and depth is its node's
  pub true_records : HasTrueRecords (image_table v)
  -- each node has as many cells as its recorded length
  pub lengths : (id : ℕ) → id < length (image_table v).nodes
      → length (cells (image_table v) id) ≡ len_at (image_table v) id
  -- each root is nil or a node
  pub roots : (k : ℕ) → k < length v.revisions → IsRope (image_table v) (revision_at v k).root
  -- each marked root is balanced
  pub marks : (k : ℕ) → k < length v.revisions → HasGoodMark (image_table v) (revision_at v k)
  -- each command is in range, and each root as long as its command's parts
  pub rules : (k : ℕ) → k < length v.revisions → KeepsRules v k

-- what holds of each revision, by its number
abbrev pub EachRevision : ImageValue → (ℕ → Type 0) → Type 0
EachRevision v P = (k : ℕ) → k < length v.revisions → P k

-- command k gives text k, of the texts before it
pub record GivesText {C : Type 0} (g : Givens C) (commands : List FullEdit) (texts : List (List C)) (k : ℕ)
    : Type 0 where
  pub gives : (e : FullEdit) → slice_get commands k ≡ Some e → slice_get texts k ≡ result_of g (take k texts) e

-- What an accepted image is: its records are true, and each revision's text is what its command gives of
-- the texts before it.
pub record IsFaithful (v : ImageValue) (st : Stated) : Type 0 where
  pub true_records : HasTrueRecordsOf v
  -- Each revision's text is what its command gives of the texts before it, over any bytes of the sources over which
  -- each of its rows of bytes has the same bytes on both sides.
  pub each_text : (source : ℕ → ℕ → ℕ)
      → EachRevision v (λ k. HasSameBytes v (SameOver source) k
      → GivesText (givens v source) (commands v) (texts v source) k)
  -- Each row of bytes has the same bytes on both sides, over every reading of what the sources state, where they state
  -- all that it is over.
  pub same_bytes : EachRevision v (HasSameBytes v (SameStated st))
  -- Each revision's cells are what its command gives of the cells before it, and so its text whatever bytes the sources
  -- hold, where none of its rows of bytes is over a source.
  pub each_cells : EachRevision v (λ k. HasRowsOverNoSource v k
      → GivesText (givens_of (image_table v)) (commands v) (texts_cells v) k)
