-- The keys that look for line breaks, and what taking any key does but for the message.
use Rattle.std.specs.Prelude.{◌≡◌, ◌↔◌, ◌⊎◌, ℕ, ◌≤◌, false, IsTrue, List, length, Option, Some, None, Result, IfErr, OnOk, OnErr, IsErrOf}
use Rattle.lazy_file.specs.SourceTexts.{Agrees, Stated}
use Rattle.lazy_file.specs.Readings.{Reading, Reads, fault_by}
use Rattle.cord_position.specs.Fetched.{IsStated}
use Rattle.cord_search.specs.Stated.{OfText}
use Rattle.edit_commands.specs.declared.fault.EditFault.TheVariants as Edit
use Rattle.command_parts.specs.declared.edit.TheConstants.{MOST_REVISIONS}
use Rattle.edit_commands.specs.Session.{session_table}
use Rattle.screen_editor.specs.declared.fault.KeyFault.{KeyFault}
use Rattle.screen_editor.specs.declared.fault.KeyFault.TheVariants as Fault
use Rattle.screen_editor.specs.declared.key.Effect.{Effect}
use Rattle.screen_editor.specs.declared.key.Effect.TheVariants.{Looks}
use Rattle.screen_editor.specs.declared.key.LinePlace.TheVariants as LinePlace
use Rattle.screen_editor.specs.declared.key.Key.{Key}
use Rattle.screen_editor.specs.Editing.{Editing, EachCurrent, current_len, current_root, state_of}
use Rattle.screen_editor.specs.Keys.{effect_of, looks_for_lines}
use Rattle.text_lines.specs.Lines.{line_start, line_end, place_up, place_down}
use Rattle.screen_editor.specs.Machine.{done}
use Rattle.screen_editor.specs.Refusals.{GrowsTooLong, IsPlainFault, KeyAsks, LeavesSession, MakesRevision, key_source_fault}
use Rattle.screen_editor.specs.Revising.{AppliesCommand, KeepsAll}

-- where it leads from a place, if it looks for line breaks
abbrev pub place_by : Effect → List ℕ → ℕ → Option ℕ
place_by (Looks LinePlace.Start) t p = Some (line_start t p)
place_by (Looks LinePlace.End) t p = Some (line_end t p)
place_by (Looks LinePlace.Above) t p = Some (place_up t p)
place_by (Looks LinePlace.Below) t p = Some (place_down t p)
place_by _ t p = None

-- where a key leads that looks for line breaks
abbrev pub line_place : Key → List ℕ → ℕ → Option ℕ
line_place key t p = place_by (effect_of key) t p

-- a place of the current text; it is the key's, where each cell of the text is stated
pub record IsLinePlace (st : Stated) (key : Key) (e : Editing) (p : ℕ) : Type 0 where
  pub looks : IsTrue (looks_for_lines key)
  pub inside : p ≤ current_len e
  pub is : OfText (session_table e.session) st (current_root e) (λ t. line_place key t e.place ≡ Some p)

abbrev pub FindsLinePlace : Stated → Key → Editing → Option ℕ → Type 0
FindsLinePlace st key e None = looks_for_lines key ≡ false
FindsLinePlace st key e (Some p) = IsLinePlace st key e p

-- what a key does, whatever bytes the sources have that agree with what they state
abbrev pub DoesStated : Stated → Key → Editing → Editing → Type 0
DoesStated st key old new =
    (source : ℕ → ℕ → ℕ) → Agrees st source → (IsTrue (looks_for_lines key) → EachCurrent old (IsStated st))
    → state_of source new ≡ done key (state_of source old)

-- what a key does to all but the message
pub record Takes (key : Key) (before : Reading) (old : Editing) (result : Result (Unit {0}) KeyFault) (now : Reading)
    (new : Editing) : Type 0 where
  pub done : OnOk result (DoesStated before.stated key old new)
  pub command : OnOk result (AppliesCommand key old new.session)
  pub moves : OnOk result (IsTrue (looks_for_lines key) → new ≡ record old { place = new.place })
  pub kept : OnErr result (KeepsAll old new)
  pub too_long : IsErrOf result Fault.TooLong ↔ GrowsTooLong key old
  pub too_many : MakesRevision key old → ¬ IsErrOf result Fault.TooLong → MOST_REVISIONS ≤ length old.session.revisions
      → IsErrOf result (Fault.Edit Edit.TooManyRevisions) ⊎ IsErrOf result (Fault.Edit Edit.Memory)
  pub fault : IfErr result (λ f. key_source_fault f ≡ None → IsPlainFault key old f new)
  pub unchanged : IfErr result (λ f. LeavesSession f → new.session ≡ old.session)
  pub reads : Reads before now (KeyAsks key old) (fault_by key_source_fault result)
  pub sources : new.session.held.sources ≡ old.session.held.sources
