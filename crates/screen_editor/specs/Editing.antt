-- What an editor holds, and the machine's state that it stands for.
use Rattle.std.specs.Prelude.{◌≡◌, ℕ, ◌+◌, ◌-◌, ◌<◌, ◌≤◌, List, length, get_or, slice_get, All, Option, Some, None, IfSome, codes}
use Rattle.std.specs.Option.{option_map}
use Rattle.rope_node.specs.declared.node.NodeId.{NodeId}
use Rattle.rope_node.specs.Denotes.{Cell}
use Rattle.lazy_file.specs.Faults.{source_fault_code}
use Rattle.lazy_file.specs.Readings.{Reading}
use Rattle.cord_position.specs.Fetched.{EachCell, rope_cell}
use Rattle.edit_commands.specs.declared.fault.EditFault.{EditFault}
use Rattle.edit_commands.specs.declared.fault.EditFault.TheVariants as Edit
use Rattle.edit_commands.specs.Session.{SessionValue, IsSession, length_at, roots_of, session_table, texts_of, edits_of}
use Rattle.screen_editor.specs.declared.cut_span.CutSpan.{CutSpan}
use Rattle.screen_editor.specs.declared.cut_span.TheConstants.{MOST_CUTS}
use Rattle.screen_editor.specs.declared.fault.KeyFault.{KeyFault}
use Rattle.screen_editor.specs.declared.fault.KeyFault.TheVariants as Key
use Rattle.screen_editor.specs.declared.workspace.TheConstants.{LONGEST_TEXT}
use Rattle.screen_editor.specs.Priors.{priors_of}
use Rattle.screen_editor.specs.State.{EditorState}

-- the code that a message names
abbrev pub edit_code : EditFault → List ℕ
edit_code Edit.NoRevision = codes "E1"
edit_code Edit.NoSource = codes "E2"
edit_code Edit.Range = codes "E3"
edit_code Edit.EmptyText = codes "E4"
edit_code Edit.TooManyRevisions = codes "E5"
edit_code Edit.TooManyRows = codes "E6"
edit_code (Edit.Node f) = codes "E7"
edit_code Edit.TooManyPieces = codes "E8"
edit_code Edit.SpliceCount = codes "E9"
edit_code Edit.TooManySplices = codes "E10"
edit_code Edit.Memory = codes "Memory"

-- how a refused key is told
abbrev pub key_code : KeyFault → List ℕ
key_code Key.TooLong = codes "K1"
key_code (Key.Edit f) = edit_code f
key_code (Key.Source f) = source_fault_code f

-- the session, each revision's prior or none, the place, the mark, the cut spans, the latest first, and why the last
-- key was refused
pub record Editing : Type 0 where
  pub session : SessionValue
  pub priors : List (Option ℕ)
  pub place : ℕ
  pub mark : Option ℕ
  pub cuts : List CutSpan
  pub message : Option KeyFault

-- over its sources
pub record EditorValue (R : Type 0) : Type 0 where
  pub sources : R
  pub editing : Editing

abbrev pub over : {R : Type 0} → R → Editing → EditorValue R
over sources e = record { sources = sources; editing = e }

-- over what is known of its sources
abbrev pub seen : {R : Type 0} → (R → Reading) → EditorValue R → EditorValue Reading
seen reading x = over (reading x.sources) x.editing

-- the machine's state, where source gives each source's bytes
abbrev pub state_of : (ℕ → ℕ → ℕ) → Editing → EditorState
state_of source e = record {
  texts = texts_of source e.session;
  priors = e.priors;
  place = e.place;
  mark = e.mark;
  cuts = e.cuts;
  message = option_map key_code e.message;
}

-- ---- the current text: its revision, root, length and cells

abbrev pub last_of : Editing → ℕ
last_of e = length e.session.revisions - 1

abbrev pub current_root : Editing → Option NodeId
current_root e = get_or (roots_of e.session.revisions) (last_of e) None

abbrev pub current_len : Editing → ℕ
current_len e = length_at e.session (last_of e)

abbrev pub current_cell : Editing → ℕ → Cell
current_cell e = rope_cell (session_table e.session) (current_root e)

-- P holds of each of its cells
abbrev pub EachCurrent : Editing → (Cell → Type 0) → Type 0
EachCurrent e P = EachCell (current_cell e) 0 (current_len e) P

-- ---- what every editor keeps to

-- a cut span lies in the text of its revision, and has a byte
pub record IsCutSpan (v : SessionValue) (c : CutSpan) : Type 0 where
  pub revision : c.revision < length v.revisions
  pub inside : c.start + c.len ≤ length_at v c.revision
  pub some : 1 ≤ c.len

-- There is a revision, each has its prior, which its command names, and each text is short enough; the place and the
-- mark lie in the current text, and the cut spans in theirs.
pub record IsEditing (e : Editing) : Type 0 where
  pub session : IsSession e.session
  pub some : 1 ≤ length e.session.revisions
  pub priors : length e.priors ≡ length e.session.revisions
  pub named : e.priors ≡ priors_of (edits_of e.session.revisions)
  pub earlier : (k j : ℕ) → slice_get e.priors k ≡ Some (Some j) → j < k
  pub short : (k : ℕ) → k < length e.session.revisions → length_at e.session k ≤ LONGEST_TEXT
  pub place : e.place ≤ current_len e
  pub mark : IfSome e.mark (λ m. m ≤ current_len e)
  pub few_cuts : length e.cuts ≤ MOST_CUTS
  pub cuts : All (IsCutSpan e.session) e.cuts

-- its state is one of the editor's, and its session's sources are those that it reads
pub record IsEditor (v : EditorValue Reading) : Type 0 where
  pub editing : IsEditing v.editing
  pub sizes : v.editing.session.held.sources ≡ v.sources.stated.sizes
