-- What one key does, where it is taken and where it is refused.
use Rattle.std.specs.Prelude.{◌≡◌, ◌↔◌, ◌⊎◌, ℕ, ◌≤◌, IsTrue, List, [], ◌∷◌, ◌++◌, length, map, Option, Some, None, Result, IfOk, IfErr, OnOk, IsErrOf}
use Rattle.std.specs.List.{range_with_len}
use Rattle.lazy_file.specs.SourceTexts.{Agrees, Stated}
use Rattle.lazy_file.specs.Readings.{Reading, Reads, fault_by}
use Rattle.cord_position.specs.Fetched.{IsStated}
use Rattle.edit_commands.specs.declared.command.Command.{Command}
use Rattle.edit_commands.specs.declared.fault.EditFault.TheVariants as Edit
use Rattle.command_parts.specs.declared.edit.TheConstants.{MOST_REVISIONS}
use Rattle.edit_commands.specs.Applying.{Applies, Keeps}
use Rattle.edit_commands.specs.Session.{SessionValue, edits_of}
use Rattle.screen_editor.specs.declared.fault.KeyFault.{KeyFault}
use Rattle.screen_editor.specs.declared.fault.KeyFault.TheVariants as Fault
use Rattle.screen_editor.specs.declared.key.Key.{Key}
use Rattle.screen_editor.specs.declared.key.Step.{Step}
use Rattle.screen_editor.specs.Editing.{Editing, EditorValue, EachCurrent, key_code, state_of}
use Rattle.screen_editor.specs.Keys.{answer_to, looks_for_lines}
use Rattle.screen_editor.specs.Machine.{done, edit_by_key, refused, step}
use Rattle.screen_editor.specs.Recorded.{HandsNoChanges, edit_at}
use Rattle.screen_editor.specs.Refusals.{GrowsTooLong, IsPlainFault, KeyAsks, LeavesSession, MakesRevision, first_command, key_source_fault}
use Rattle.screen_editor.specs.State.{start_of}

-- what a key does but for the message, whatever bytes the sources have
abbrev pub Does : Key → Editing → Editing → Type 0
Does key old new = (source : ℕ → ℕ → ℕ) → state_of source new ≡ done key (state_of source old)

-- The session after a key, whatever bytes the sources have: as before, where the key makes no command; else what its
-- command makes of it, wherever in the pool the command's bytes come to stand.
pub data AppliesCommand (key : Key) (old : Editing) (new : SessionValue) : Type 0 where
  none : ((place : ℕ) (source : ℕ → ℕ → ℕ) → edit_by_key place key (state_of source old) ≡ None)
      → new ≡ old.session → AppliesCommand key old new
  one : (command : Command) → HandsNoChanges command
      → ((place : ℕ) (source : ℕ → ℕ → ℕ) → edit_by_key place key (state_of source old) ≡ Some (edit_at place command))
      → Applies old.session command (length old.session.revisions) new → AppliesCommand key old new

-- The new state is the machine's, whatever bytes the sources have that agree with what they state: of a key that
-- looks for line breaks, where each cell of the text is stated; in any case such a key moves the place alone. The
-- session applies the key's command.
pub record IsStep (st : Stated) (key : Key) (old new : Editing) : Type 0 where
  pub state : (source : ℕ → ℕ → ℕ) → Agrees st source → (IsTrue (looks_for_lines key) → EachCurrent old (IsStated st))
      → state_of source new ≡ step key (state_of source old)
  pub command : AppliesCommand key old new.session
  pub moves : IsTrue (looks_for_lines key) → new ≡ record old { place = new.place; message = None }

-- The message alone is new, whatever bytes the sources have. The session may have nodes and bytes more, to which
-- nothing refers; but none where the text would be too long, there are too many revisions, or a read failed.
pub record IsRefusedBy (fault : KeyFault) (old new : Editing) : Type 0 where
  pub state : (source : ℕ → ℕ → ℕ) → state_of source new ≡ refused (key_code fault) (state_of source old)
  pub keeps : Keeps old.session new.session
  pub revisions : new.session.revisions ≡ old.session.revisions
  pub rest : new ≡ record old { session = new.session; message = Some fault }
  pub unchanged : LeavesSession fault → new.session ≡ old.session

-- A key is taken, as the machine says, or refused. It is too long exactly where its text would be; else, where there
-- are too many revisions, that or want of memory is told; a source's fault is that of the one read that failed, of a
-- cell of the current text.
pub record TakesKey (key : Key) (old : EditorValue Reading) (result : Result Step KeyFault) (new : EditorValue Reading)
    : Type 0 where
  pub step : OnOk result (IsStep old.sources.stated key old.editing new.editing)
  pub answer : IfOk result (λ a. a ≡ answer_to key)
  pub refused : IfErr result (λ f. IsRefusedBy f old.editing new.editing)
  pub too_long : IsErrOf result Fault.TooLong ↔ GrowsTooLong key old.editing
  pub too_many : MakesRevision key old.editing → ¬ IsErrOf result Fault.TooLong
      → MOST_REVISIONS ≤ length old.editing.session.revisions
      → IsErrOf result (Fault.Edit Edit.TooManyRevisions) ⊎ IsErrOf result (Fault.Edit Edit.Memory)
  pub fault : IfErr result (λ f. key_source_fault f ≡ None → IsPlainFault key old.editing f new.editing)
  pub reads : Reads old.sources new.sources (KeyAsks key old.editing) (fault_by key_source_fault result)

-- ---- a revision more

-- one revision more, by this command, of this prior; the place is then q, and there is no mark
pub record AddsRevision (command : Command) (prior : Option ℕ) (q : ℕ) (old new : Editing) : Type 0 where
  pub applies : Applies old.session command (length old.session.revisions) new.session
  pub rest : new ≡ record old { session = new.session; priors = old.priors ++ prior ∷ []; place = q; mark = None }

-- the session has at most nodes and bytes more to which nothing refers, and all else is as before
pub record KeepsAll (old new : Editing) : Type 0 where
  pub keeps : Keeps old.session new.session
  pub revisions : new.session.revisions ≡ old.session.revisions
  pub rest : new ≡ record old { session = new.session }

-- ---- a new editor

-- the text that it begins with: that of source 0, or an empty one where there is no source
abbrev pub first_text : (ℕ → ℕ → ℕ) → List ℕ → List ℕ
first_text source [] = []
first_text source (n ∷ sizes) = map (source 0) (range_with_len 0 n)

-- Its state is the first one, whatever bytes the sources have. Its one command opens source 0, or makes an empty text
-- where there is no source.
pub record IsMade (sizes : List ℕ) (e : Editing) : Type 0 where
  pub state : (source : ℕ → ℕ → ℕ) → state_of source e ≡ start_of (first_text source sizes)
  pub command : edits_of e.session.revisions ≡ edit_at 0 (first_command sizes) ∷ []
