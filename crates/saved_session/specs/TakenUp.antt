-- A session that goes on from an accepted image: what it says, and why there is none.
use Rattle.std.specs.Prelude.{◌≡◌, ℕ, ◌+◌, ◌<◌, ◌≤◌, List, length, map, take, slice_get, Some}
use Rattle.lazy_file.specs.SourceTexts.{Stated}
use Rattle.leaf_buffer.specs.Contents.{held_whole}
use Rattle.function_leaf.specs.Coded.{coded_byte}
use Rattle.node_table.specs.Held.{Held, table_of, held_coded}
use Rattle.function_leaf.specs.declared.coded.Coded.{Coded}
use Rattle.span_certificate.specs.declared.making.TheConstants.{ROWS_LIMIT}
use Rattle.edit_commands.specs.declared.revision.Revision as Kept
use Rattle.rope_node.specs.Denotes.{rope_len}
use Rattle.std.specs.List.{sum_by}
use Rattle.span_certificate.specs.declared.row.Row.{Row}
use Rattle.span_certificate.specs.Covers.{rows_len}
use Rattle.span_certificate.specs.Longest.{AreLongest, AreMade}
use Rattle.edit_commands.specs.Session.{SessionValue, roots_of, edits_of}
use Rattle.image_reader.specs.declared.revision.Revision.{Revision}
use Rattle.image_reader.specs.Value.{ImageValue, image_table, coded_at, in_version_two}
use Rattle.image_reader.specs.Accepted.{parts_at, revision_at, rows_at, rows_before, splices_before}
use Rattle.session_image.specs.Written.{AreAsMade, IsAsMade, image_of, nodes_of, recorded_revision, rows_in, splices_in}
use Rattle.session_checker.specs.RevisionRules.{AreGoodOver, HasRowsOverNoSource}

-- the image keeps its rules over what some sources state
abbrev pub WasChecked : ImageValue → Type 0
WasChecked v = (st : Stated) × AreGoodOver v st

-- what a store holds is an image's nodes, functions, pool, as one full block, and sources: it is one table with the image
pub record HoldsImage (v : ImageValue) (h : Held Coded) : Type 0 where
  pub sources : h.sources ≡ v.sources
  pub nodes : nodes_of h ≡ v.nodes
  pub pool : h.pool.bytes ≡ v.pool
  pub block : h.pool ≡ held_whole v.pool
  pub table : table_of coded_byte h ≡ image_table v
  pub coded : held_coded h ≡ coded_at v

-- rows that stand for revision k: over any sources, each the longest, to the end of its root; the image's own where each
-- of those is the longest
pub record StandFor (v : ImageValue) (k : ℕ) (rows : List Row) : Type 0 where
  pub made : AreMade (image_table v) (coded_at v) (parts_at v k) (revision_at v k).root rows
  pub whole : rows_len rows ≡ rope_len (image_table v) (revision_at v k).root
  pub own : AreLongest (image_table v) (parts_at v k) (revision_at v k).root (rows_at v k) → rows ≡ rows_at v k

-- the rows of each revision
abbrev pub each_rows : List Kept.Revision → List (List Row)
each_rows revisions = map (λ (r : Kept.Revision). r.rows.items) revisions

-- A session says what an image says, by the same nodes, its pool one full block; the rows of each revision stand for the
-- image's. It is the image, where that is as a session makes it.
pub record TakesUp (v : ImageValue) (s : SessionValue) : Type 0 where
  pub sources : s.held.sources ≡ v.sources
  pub nodes : nodes_of s.held ≡ v.nodes
  pub pool : s.held.pool.bytes ≡ v.pool
  pub block : s.held.pool ≡ held_whole v.pool
  -- so that no function behind the last node answers otherwise
  pub table : table_of coded_byte s.held ≡ image_table v
  pub edits : edits_of s.revisions ≡ map (λ (r : Revision). r.edit) v.revisions
  pub roots : roots_of s.revisions ≡ map (λ (r : Revision). r.root) v.revisions
  pub splices : splices_in s.revisions ≡ v.splices
  pub stand : (k : ℕ) (rows : List Row) → slice_get (each_rows s.revisions) k ≡ Some rows → StandFor v k rows
  pub as_made : AreAsMade v → image_of s ≡ in_version_two v

-- rows that stand for each of the first k revisions, none of which has a row of bytes over a source: not too many
pub record AreFirstRows (v : ImageValue) (k : ℕ) (before : List (List Row)) : Type 0 where
  pub number : length before ≡ k
  pub stand : (j : ℕ) (rows : List Row) → slice_get before j ≡ Some rows → StandFor v j rows
  pub no_source : (j : ℕ) → j < k → HasRowsOverNoSource v j
  pub few : sum_by length before ≤ ROWS_LIMIT

-- the rows that stand for the first k revisions and longest rows for the first bytes of revision k, which has no row of
-- bytes over a source either, are more than there may be; or as many, while some of revision k is left
pub record TakenRowsPass (v : ImageValue) : Type 0 where
  pub k : ℕ
  pub there : k < length v.revisions
  pub before : List (List Row)
  pub first : AreFirstRows v k before
  pub own : HasRowsOverNoSource v k
  pub rows : List Row
  pub made : AreMade (image_table v) (coded_at v) (parts_at v k) (revision_at v k).root rows
  pub full : ROWS_LIMIT ≤ sum_by length before + length rows
  pub left : ROWS_LIMIT ≡ sum_by length before + length rows → rows_len rows < rope_len (image_table v) (revision_at v k).root

-- the first k revisions are taken up
pub record TakesFirst (v : ImageValue) (k : ℕ) (s : SessionValue) : Type 0 where
  pub holds : HoldsImage v s.held
  pub inside : k ≤ length v.revisions
  pub edits : edits_of s.revisions ≡ map (λ (r : Revision). r.edit) (take k v.revisions)
  pub roots : roots_of s.revisions ≡ map (λ (r : Revision). r.root) (take k v.revisions)
  pub splices : splices_in s.revisions ≡ take (splices_before v k) v.splices
  pub no_source : (j : ℕ) → j < k → HasRowsOverNoSource v j
  pub stand : (j : ℕ) (rows : List Row) → slice_get (each_rows s.revisions) j ≡ Some rows → StandFor v j rows
  pub revisions_as_made : ((j : ℕ) → j < k → IsAsMade v j) → map recorded_revision s.revisions ≡ take k v.revisions
  pub rows_as_made : ((j : ℕ) → j < k → IsAsMade v j) → rows_in s.revisions ≡ take (rows_before v k) v.rows
