-- The text that a commit compares, and what it reads of it.
use Rattle.std.specs.Prelude.{◌≡◌, ◌≢◌, ℕ, ◌-◌, List, length, Option, Some, None, Result}
use Rattle.lazy_file.specs.SourceTexts.{Agrees, Stated}
use Rattle.lazy_file.specs.Readings.{fault_by, fault_in, Reading, Reads}
use Rattle.lazy_file.specs.declared.faults.SourceFault.{SourceFault}
use Rattle.rope_node.specs.declared.node.NodeId.{NodeId}
use Rattle.rope_node.specs.Table.{Table}
use Rattle.rope_node.specs.Denotes.{rope_cells, rope_len, text}
use Rattle.cord_position.specs.Fetched.{EachCell, InCells, IsStated, rope_cell}
use Rattle.command_parts.specs.Parts.{root_at}
use Rattle.edit_commands.specs.Session.{SessionValue, length_at, roots_of, session_table}
use Rattle.commit_tools.specs.declared.fault.CommitFault.{CommitFault}
use Rattle.commit_tools.specs.declared.fault.CommitFault.TheVariants.{Read, Memory}

-- the root of a revision, nil where there is none, and its text
abbrev pub revision_root : SessionValue → ℕ → Option NodeId
revision_root v r = root_at (roots_of v.revisions) r

abbrev pub text_in : (ℕ → ℕ → ℕ) → SessionValue → ℕ → List ℕ
text_in source v r = text source (rope_cells (session_table v) (revision_root v r))

-- the root of the last revision, nil where there is none, and its text
abbrev pub last_root : SessionValue → Option NodeId
last_root v = revision_root v (length v.revisions - 1)

abbrev pub last_text : (ℕ → ℕ → ℕ) → SessionValue → List ℕ
last_text source v = text_in source v (length v.revisions - 1)

-- P holds whatever bytes the sources have that agree with what they state, where each cell of a revision's text is
-- stated
abbrev pub OverRevision : Stated → SessionValue → ℕ → ((ℕ → ℕ → ℕ) → Type 0) → Type 0
OverRevision st v r P = (source : ℕ → ℕ → ℕ) → Agrees st source
    → EachCell (rope_cell (session_table v) (revision_root v r)) 0 (length_at v r) (IsStated st)
    → P source

-- the same, of the last one's
abbrev pub OverLast : Stated → SessionValue → ((ℕ → ℕ → ℕ) → Type 0) → Type 0
OverLast st v P = OverRevision st v (length v.revisions - 1) P

-- what a call does that may read a rope's cells
abbrev pub ReadsRope : {X : Type 0} → Table → Option NodeId → Reading → Reading → Result X SourceFault → Type 0
ReadsRope t rope before after outcome =
    Reads before after (InCells (rope_cell t rope) 0 (rope_len t rope)) (fault_in outcome)

-- the fault of a source that a commit tells
abbrev pub read_fault_of : CommitFault → Option SourceFault
read_fault_of (Read fault) = Some fault
read_fault_of other = None

-- what a call does that may read a rope's cells, and tells a source's fault as a commit does
abbrev pub ReadsRopeOr : {X : Type 0} → Table → Option NodeId → Reading → Reading → Result X CommitFault → Type 0
ReadsRopeOr t rope before after outcome =
    Reads before after (InCells (rope_cell t rope) 0 (rope_len t rope)) (fault_by read_fault_of outcome)

-- the places of sources among the cells of a revision's text
abbrev pub InText : SessionValue → ℕ → ℕ → ℕ → Type 0
InText v r s p = InCells (rope_cell (session_table v) (revision_root v r)) 0 (length_at v r) s p

-- those among the cells of texts as long as a file
abbrev pub InTextsAsLong : SessionValue → List ℕ → ℕ → ℕ → Type 0
InTextsAsLong v file s p = (r : ℕ) × (length_at v r ≡ length file) × InText v r s p

-- and those of the last text too
abbrev pub InReadTexts : SessionValue → List ℕ → ℕ → ℕ → Type 0
InReadTexts v file s p =
    (r : ℕ) × (length_at v r ≢ length file → r ≡ length v.revisions - 1) × InText v r s p

-- of the sources only cells of texts as long as the file are read
abbrev pub ReadsAsLong : {X : Type 0} → SessionValue → List ℕ → Reading → Reading → Result X SourceFault → Type 0
ReadsAsLong begun file before after outcome = Reads before after (InTextsAsLong begun file) (fault_in outcome)

-- of the sources only cells of the last text are read, and of texts as long as the file
abbrev pub ReadsTexts : {X : Type 0} → SessionValue → List ℕ → Reading → Reading → Result X CommitFault → Type 0
ReadsTexts begun file before after outcome =
    Reads before after (InReadTexts begun file) (fault_by read_fault_of outcome)

-- a read failed, or memory was refused
abbrev pub IsReadingFault : CommitFault → Type 0
IsReadingFault (Read fault) = Unit {0}
IsReadingFault Memory = Unit {0}
IsReadingFault other = ⊥
