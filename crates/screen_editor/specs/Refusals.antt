-- Why a key is refused, and why there is no editor.
use Rattle.std.specs.Prelude.{◌≡◌, ℕ, ◌+◌, ◌≤◌, ◌<◌, List, [], ◌∷◌, length, get_or, Option, Some, None, IsTrue}
use Rattle.lazy_file.specs.SourceTexts.{Stated}
use Rattle.lazy_file.specs.declared.faults.SourceFault.{SourceFault}
use Rattle.cord_position.specs.Fetched.{InCells}
use Rattle.edit_commands.specs.declared.command.Command.{Command}
use Rattle.edit_commands.specs.declared.fault.EditFault.{EditFault}
use Rattle.edit_commands.specs.declared.fault.EditFault.TheVariants as Edit
use Rattle.command_parts.specs.declared.edit.TheConstants.{MOST_REVISIONS}
use Rattle.edit_commands.specs.Applying.{IsLaterFault}
use Rattle.edit_commands.specs.Refusals.{bytes_of}
use Rattle.screen_editor.specs.declared.fault.EditorFault.{EditorFault}
use Rattle.screen_editor.specs.declared.fault.EditorFault.TheVariants as New
use Rattle.screen_editor.specs.declared.fault.KeyFault.{KeyFault}
use Rattle.screen_editor.specs.declared.fault.KeyFault.TheVariants as Fault
use Rattle.screen_editor.specs.declared.key.Key.{Key}
use Rattle.screen_editor.specs.declared.key.Key.TheVariants.{Typed}
use Rattle.screen_editor.specs.declared.workspace.TheConstants.{LONGEST_TEXT}
use Rattle.screen_editor.specs.Editing.{Editing, current_cell, current_len, state_of}
use Rattle.screen_editor.specs.Keys.{looks_for_lines}
use Rattle.screen_editor.specs.Machine.{edit_by_key, step}
use Rattle.screen_editor.specs.Recorded.{edit_at}
use Rattle.screen_editor.specs.State.{current}

-- the key makes a revision
abbrev pub MakesRevision : Key → Editing → Type 0
MakesRevision key e =
    (source : ℕ → ℕ → ℕ) → length (step key (state_of source e)).texts ≡ length e.session.revisions + 1

-- the text that a key would give has too many bytes
abbrev pub GrowsTooLong : Key → Editing → Type 0
GrowsTooLong key e = (source : ℕ → ℕ → ℕ) → LONGEST_TEXT < length (current (step key (state_of source e)))

-- the bytes that a key types
abbrev pub typed_bytes : Key → Option (List ℕ)
typed_bytes (Typed b) = Some (b ∷ [])
typed_bytes _ = None

-- The session's call for the key's command, whose bytes stand at this place of the pool, met this on the way. Where that
-- is want of memory, it may have come before the call, to the new revision's prior.
pub record WasRefused (key : Key) (old : Editing) (fault : EditFault) (new : Editing) : Type 0 where
  pub command : Command
  pub place : ℕ
  pub edit : (source : ℕ → ℕ → ℕ) → edit_by_key place key (state_of source old) ≡ Some (edit_at place command)
  pub bytes : bytes_of command ≡ typed_bytes key
  pub met : IsLaterFault old.session.held old.session.revisions command fault new.session.held

-- there are too many revisions, the session's call met a limit, or memory was refused, to it or to the new revision's
-- prior
abbrev pub IsEditFault : Key → Editing → EditFault → Editing → Type 0
IsEditFault key old Edit.TooManyRevisions new = MOST_REVISIONS ≤ length old.session.revisions
IsEditFault key old fault new = WasRefused key old fault new

-- why a key that makes a revision is refused, but for faults of sources; when a text is too long is told beside this
abbrev pub IsPlainFault : Key → Editing → KeyFault → Editing → Type 0
IsPlainFault key old Fault.TooLong new = MakesRevision key old
IsPlainFault key old (Fault.Edit fault) new = MakesRevision key old × IsEditFault key old fault new
IsPlainFault key old (Fault.Source fault) new = ⊥

-- a fault at which the session stays as it was: the text would be too long, there are too many revisions, or a read
-- failed
abbrev pub LeavesSession : KeyFault → Type 0
LeavesSession Fault.TooLong = Unit {0}
LeavesSession (Fault.Source fault) = Unit {0}
LeavesSession (Fault.Edit Edit.TooManyRevisions) = Unit {0}
LeavesSession (Fault.Edit fault) = ⊥

-- the source's fault that a fault is, if it is one
abbrev pub key_source_fault : KeyFault → Option SourceFault
key_source_fault (Fault.Source fault) = Some fault
key_source_fault other = None

-- a place that a key asks for: it looks for line breaks, and some cell of the current text is that place
abbrev pub KeyAsks : Key → Editing → ℕ → ℕ → Type 0
KeyAsks key e s p = IsTrue (looks_for_lines key) × InCells (current_cell e) 0 (current_len e) s p

-- the first source is too long
abbrev pub IsTooLong : Stated → Type 0
IsTooLong st = LONGEST_TEXT < get_or st.sizes 0 0

-- the command that makes the first revision
abbrev pub first_command : List ℕ → Command
first_command [] = Command.New
first_command (n ∷ sizes) = Command.Open 0

-- the first source is too long; or memory was refused, to the call for the first revision or beside it
abbrev pub IsNewFault : Stated → EditorFault → Type 0
IsNewFault st New.TooLong = IsTooLong st
IsNewFault st (New.Edit fault) = fault ≡ Edit.Memory
IsNewFault st New.Memory = Unit {0}
