-- Where the bytes of a revision's text stand.
use Rattle.std.specs.Prelude.{◌≡◌, ◌≢◌, ◌⊎◌, ℕ, ◌+◌, ◌<◌, ◌≤◌, min, List, length, take, drop, Option, Some}
use Rattle.rope_node.specs.declared.node.LeafSpan.{LeafSpan}
use Rattle.rope_node.specs.declared.node.NodeId.{NodeId}
use Rattle.rope_node.specs.Denotes.{Cell, Byte, Place, rope_len}
use Rattle.lazy_file.specs.SourceTexts.{AreSizes, Stated}
use Rattle.cord_position.specs.Fetched.{EachCell, IsReadable, rope_part}
use Rattle.cord_position.specs.Runs.{AreBytesOf, rope_span, run_left}
use Rattle.span_descent.specs.declared.description.Description.{Description}
use Rattle.span_descent.specs.Leads.{described_cells}
use Rattle.image_reader.specs.Value.{ImageValue, coded_at, image_table}
use Rattle.image_reader.specs.Accepted.{revision_at}
use Rattle.session_checker.specs.Faithful.{IsFetchedOf, fetched_cell}
use Rattle.cord_types.specs.declared.run.CordRun.{CordRun}
use Rattle.cord_types.specs.ToldRuns.{leaf_span_description}
pub use Rattle.cord_types.specs.ToldRuns.{computed_run, placed_run, run_told}
use Rattle.cord_c.specs.declared.text.TheConstants.{NO_PLACE, NOT_HELD, READ}
use Rattle.cord_types.specs.HeldTexts.{held_bytes}

-- the root of a revision's text; of none, nil
abbrev pub text_root : ImageValue → ℕ → Option NodeId
text_root v k = (revision_at v k).root

-- how long that text is
abbrev pub revision_len : ImageValue → ℕ → ℕ
revision_len v k = rope_len (image_table v) (text_root v k)

-- n cells of it from a place on
abbrev pub text_part : ImageValue → ℕ → ℕ → ℕ → List Cell
text_part v k place n = rope_part (image_table v) (text_root v k) place n

-- how many bytes there are from a place of it to the end of its leaf's span; at the end, 0
abbrev pub left_of : ImageValue → ℕ → ℕ → ℕ
left_of v k place = run_left (image_table v) (text_root v k) place

-- what a span of a leaf is, over the image's nodes and functions
abbrev pub span_description : ImageValue → Option LeafSpan → Option Description
span_description v x = leaf_span_description (image_table v) (coded_at v) x

-- what the leaf span is that holds the byte at a place of the text
abbrev pub description_at : ImageValue → ℕ → ℕ → Option Description
description_at v k place = span_description v (rope_span (image_table v) (text_root v k) place)

-- The numbers are those of the run that the text has from this place on: bytes of one description, which is that of the
-- leaf span that holds them, up to its end.
pub record IsLocated (v : ImageValue) (k place : ℕ) (x : CordRun) : Type 0 where
  pub longest : x.len ≡ left_of v k place
  pub some : 1 ≤ x.len
  pub inside : place + x.len ≤ revision_len v k
  pub what : Description
  pub stands : description_at v k place ≡ Some what
  pub cells : (m : ℕ) → m ≤ x.len → text_part v k place m ≡ described_cells (image_table v) m what
  pub told : x ≡ run_told what x.len

-- the byte of a cell is held: where it is one of a source, that one is handed in with it, and it stands before its end
abbrev pub IsByteHeld : Stated → Cell → Type 0
IsByteHeld st (Byte b) = Unit {0}
IsByteHeld st (Place s p) = p < length (held_bytes st s)

-- What a fetch of the byte at a place answers. It finds none that is not held, and nothing over sources that are none.
-- It succeeds where the byte is none of a source, or all bytes of the sources are held.
pub record FetchesByte (v : ImageValue) (st : Stated) (k place old new outcome : ℕ) : Type 0 where
  pub found : outcome ≡ READ → IsFetchedOf v st k place (Some new)
  pub held : outcome ≡ READ → IsByteHeld st (fetched_cell v k place)
  pub inside : outcome ≡ READ → place < revision_len v k
  pub past : outcome ≡ NO_PLACE → revision_len v k ≤ place
  pub kept : outcome ≢ READ → new ≡ old
  pub refused : ¬ AreSizes st.sizes → outcome ≡ NOT_HELD
  pub succeeds : AreSizes st.sizes → IsReadable st (fetched_cell v k place) → outcome ≢ NOT_HELD
  pub told : (outcome ≡ READ) ⊎ ((outcome ≡ NO_PLACE) ⊎ (outcome ≡ NOT_HELD))

-- What a read of the bytes from a place on answers, with how many were written: all up to the end of the leaf's span,
-- or as many as there was room for. It reads none that is not held, and nothing over sources that are none. It succeeds
-- where none of these is one of a source, or all bytes of the sources are held.
pub record ReadsRun (v : ImageValue) (st : Stated) (k place : ℕ) (old new : List ℕ) (count outcome : ℕ) : Type 0 where
  pub count_is : outcome ≡ READ → count ≡ min (left_of v k place) (length old)
  pub bytes : outcome ≡ READ → AreBytesOf st (text_part v k place count) (take count new)
  pub held : outcome ≡ READ → EachCell (fetched_cell v k) place (place + count) (IsByteHeld st)
  pub rest : outcome ≡ READ → drop count new ≡ drop count old
  pub none : outcome ≢ READ → count ≡ 0
  pub refused : ¬ AreSizes st.sizes → outcome ≡ NOT_HELD
  pub succeeds : AreSizes st.sizes
      → EachCell (fetched_cell v k) place (place + min (left_of v k place) (length old)) (IsReadable st)
      → outcome ≡ READ
  pub told : (outcome ≡ READ) ⊎ (outcome ≡ NOT_HELD)
