-- What a session holds, and what every session keeps to.
use Rattle.std.specs.Prelude.{◌≡◌, ◌↔◌, ℕ, ◌≤◌, Bool, IsTrue, List, [], length, map, take, get_or, slice_get, Option, Some, None}
use Rattle.std.specs.Option.{option_map}
use Rattle.std.specs.List.{range_with_len, sum_by}
use Rattle.function_leaf.specs.declared.coded.Coded.{Coded}
use Rattle.function_leaf.specs.Coded.{coded_byte}
use Rattle.rope_node.specs.declared.node.NodeId.{NodeId}
use Rattle.rope_node.specs.Table.{Table}
use Rattle.rope_node.specs.Balance.{IsBalancedRope}
use Rattle.rope_node.specs.Denotes.{Cell, rope_cells, rope_len, IsRope, text}
use Rattle.node_table.specs.Held.{Held, table_of, held_coded, held_of}
use Rattle.command_parts.specs.declared.edit.Edit.{Edit}
use Rattle.command_parts.specs.declared.edit.Edit.TheVariants.{Many}
use Rattle.command_parts.specs.declared.edit.Splice.{Splice}
use Rattle.command_parts.specs.declared.part.Part.{Part}
use Rattle.span_certificate.specs.declared.row.Row.{Row}
use Rattle.command_parts.specs.Commands.{FullEdit, Givens, IsHistory, with_splices}
use Rattle.span_certificate.specs.Covers.{CoversAlways, MeetsNoSource}
use Rattle.span_certificate.specs.Longest.{AreLongest}
use Rattle.span_certificate.specs.declared.making.TheConstants.{ROWS_LIMIT}
use Rattle.command_parts.specs.Parts.{givens_of, parts_of, IsInRange}
use Rattle.edit_commands.specs.declared.revision.Revision.{Revision}
use Rattle.command_parts.specs.declared.edit.TheConstants.{SPLICES_LIMIT}
use Rattle.command_parts.specs.declared.edit.TheConstants.{MOST_REVISIONS}

-- the store, and the revisions
pub record SessionValue : Type 0 where
  pub held : Held Coded
  pub revisions : List Revision

-- a store that holds nothing but sources of these lengths, and a session without revisions over it
abbrev pub store_with : List ℕ → Held Coded
store_with sizes = held_of [] (record { bytes = []; borders = []; room = 0 }) sizes

abbrev pub new_session : List ℕ → SessionValue
new_session sizes = record { held = store_with sizes; revisions = [] }

abbrev pub session_table : SessionValue → Table
session_table v = table_of coded_byte v.held

-- what a revision's command says
abbrev pub command_of : Revision → FullEdit
command_of r = with_splices r.splices.items r.edit

abbrev pub commands_of : List Revision → List FullEdit
commands_of revisions = map command_of revisions

abbrev pub roots_of : List Revision → List (Option NodeId)
roots_of revisions = map (λ (r : Revision). r.root) revisions

-- how many rows all of them have
abbrev pub rows_held : List Revision → ℕ
rows_held revisions = sum_by (λ (r : Revision). length r.rows.items) revisions

-- and how many splices
abbrev pub splices_held : List Revision → ℕ
splices_held revisions = sum_by (λ (r : Revision). length r.splices.items) revisions

-- the cells of each revision's root, its text over the sources' bytes, and its length
abbrev pub cells_of : SessionValue → List (List Cell)
cells_of v = map (rope_cells (session_table v)) (roots_of v.revisions)

abbrev pub texts_of : (ℕ → ℕ → ℕ) → SessionValue → List (List ℕ)
texts_of source v = map (text source) (cells_of v)

abbrev pub length_at : SessionValue → ℕ → ℕ
length_at v k = rope_len (session_table v) (get_or (roots_of v.revisions) k None)

-- the commands as they are recorded
abbrev pub edits_of : List Revision → List Edit
edits_of revisions = map (λ (r : Revision). r.edit) revisions

-- what commands take from outside the earlier texts, over the sources' bytes
abbrev pub text_givens : (ℕ → ℕ → ℕ) → Table → Givens ℕ
text_givens source t = record {
  pool = t.pool;
  sources = map (λ s. map (source s) (range_with_len 0 (get_or t.sources s 0))) (range_with_len 0 (length t.sources));
  byte = λ b. b;
}

-- the parts of a revision's command, where these are the revisions before it
abbrev pub parts_behind : Table → List Revision → Revision → List Part
parts_behind t before r = parts_of t (roots_of before) (command_of r)

-- a recorded command names these splices, which stand behind so many others
abbrev pub NamesThese : ℕ → List Splice → Edit → Type 0
NamesThese earlier splices (Many r first count) = (first ≡ earlier) × (count ≡ length splices)
NamesThese earlier splices _ = splices ≡ []

-- Behind these revisions: this command is in range, and names these splices; this root is a rope; these rows cover the
-- command's parts and the root whatever the sources hold, and none that compares bytes is over a source.
pub record IsCertified (h : Held Coded) (before : List Revision) (edit : Edit) (splices : List Splice)
    (rope : Option NodeId) (covering : List Row) : Type 0 where
  pub range : IsInRange (table_of coded_byte h) (roots_of before) (with_splices splices edit)
  pub names : NamesThese (splices_held before) splices edit
  pub root : IsRope (table_of coded_byte h) rope
  pub rows : CoversAlways (table_of coded_byte h) (held_coded h)
      (parts_of (table_of coded_byte h) (roots_of before) (with_splices splices edit)) rope covering
  pub no_source : MeetsNoSource (table_of coded_byte h)
      (parts_of (table_of coded_byte h) (roots_of before) (with_splices splices edit)) rope covering

-- A revision behind these: its command, root and rows are certified; it is marked exactly where its root is balanced, and
-- each row is the longest.
pub record IsRevision (h : Held Coded) (before : List Revision) (r : Revision) : Type 0 where
  pub certified : IsCertified h before r.edit r.splices.items r.root r.rows.items
  pub mark : IsTrue r.mark ↔ IsBalancedRope (table_of coded_byte h) r.root
  pub longest : AreLongest (table_of coded_byte h)
      (parts_behind (table_of coded_byte h) before r) r.root r.rows.items

-- each is, behind those before it
abbrev pub AreRevisions : Held Coded → List Revision → Type 0
AreRevisions h revisions = (k : ℕ) (r : Revision) → slice_get revisions k ≡ Some r → IsRevision h (take k revisions) r

-- every session's revisions are, and there are not too many, nor too many rows or splices
pub record IsSession (v : SessionValue) : Type 0 where
  pub each : AreRevisions v.held v.revisions
  pub few : length v.revisions ≤ MOST_REVISIONS
  pub few_rows : rows_held v.revisions ≤ ROWS_LIMIT
  pub few_splices : splices_held v.revisions ≤ SPLICES_LIMIT

-- The cells of the roots are the history of the commands, and so are the texts, whatever the sources hold; a revision's
-- length is its text's.
pub record HoldsHistory (v : SessionValue) : Type 0 where
  pub cells : IsHistory (givens_of (session_table v)) (commands_of v.revisions) (cells_of v)
  pub texts : (source : ℕ → ℕ → ℕ) → IsHistory (text_givens source (session_table v)) (commands_of v.revisions)
      (texts_of source v)
  pub lengths : map length (cells_of v) ≡ map (rope_len (session_table v)) (roots_of v.revisions)

-- the root of revision k, where there is one
abbrev pub root_of : SessionValue → ℕ → Option (Option NodeId)
root_of v k = option_map (λ (r : Revision). r.root) (slice_get v.revisions k)

-- whether revision k, where there is one, is marked as balanced
abbrev pub mark_of : SessionValue → ℕ → Option Bool
mark_of v k = option_map (λ (r : Revision). r.mark) (slice_get v.revisions k)

-- the command of revision k, where there is one, as it is recorded
abbrev pub edit_of : SessionValue → ℕ → Option Edit
edit_of v k = option_map (λ (r : Revision). r.edit) (slice_get v.revisions k)

-- the rows of revision k, where there is one
abbrev pub rows_of : SessionValue → ℕ → Option (List Row)
rows_of v k = option_map (λ (r : Revision). r.rows.items) (slice_get v.revisions k)

-- the splices of revision k, where there is one
abbrev pub splices_of_revision : SessionValue → ℕ → Option (List Splice)
splices_of_revision v k = option_map (λ (r : Revision). r.splices.items) (slice_get v.revisions k)
