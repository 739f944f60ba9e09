-- How a key that looks for no line break is carried out: by itself, or by one command of the session.
use Rattle.std.specs.Prelude.{◌≡◌, ◌↔◌, ◌⊎◌, ℕ, ◌+◌, ◌≤◌, ◌<◌, length, Option, Result, IfErr, OnOk, OnErr, IsErrOf}
use Rattle.edit_commands.specs.declared.command.Command.{Command}
use Rattle.edit_commands.specs.declared.command.Command.TheVariants.{Insert, Delete, Paste, Back, Balance}
use Rattle.edit_commands.specs.declared.fault.EditFault.TheVariants as Edit
use Rattle.command_parts.specs.declared.edit.TheConstants.{MOST_REVISIONS}
use Rattle.edit_commands.specs.Applying.{IsLaterFault}
use Rattle.edit_commands.specs.Session.{SessionValue, length_at}
use Rattle.screen_editor.specs.declared.fault.KeyFault.{KeyFault}
use Rattle.screen_editor.specs.declared.fault.KeyFault.TheVariants as Fault
use Rattle.screen_editor.specs.declared.key.Key.{Key}
use Rattle.screen_editor.specs.Editing.{Editing}
use Rattle.screen_editor.specs.Refusals.{GrowsTooLong, IsPlainFault, LeavesSession, MakesRevision}
use Rattle.screen_editor.specs.Revising.{AddsRevision, AppliesCommand, Does, KeepsAll}

-- ---- a command

-- a command of a key, whose revisions are there and whose spans lie in their texts
abbrev pub IsInOrder : SessionValue → Command → Type 0
IsInOrder v (Insert r p bytes) = (r < length v.revisions) × (p ≤ length_at v r) × (length bytes.now ≡ 1)
IsInOrder v (Delete r p n) = (r < length v.revisions) × (p + n ≤ length_at v r)
IsInOrder v (Paste r p q i n) =
    (r < length v.revisions) × (p ≤ length_at v r) × (q < length v.revisions) × (i + n ≤ length_at v q)
IsInOrder v (Back r) = r < length v.revisions
IsInOrder v (Balance r) = r < length v.revisions
IsInOrder v _ = ⊥

-- there are too many revisions, or the session's call met a limit; or memory was refused, before that call, to it, or
-- behind the root that it gives
abbrev pub IsReviseFault : Command → Editing → KeyFault → Editing → Type 0
IsReviseFault command old (Fault.Edit Edit.TooManyRevisions) new = MOST_REVISIONS ≤ length old.session.revisions
IsReviseFault command old (Fault.Edit fault) new =
    IsLaterFault old.session.held old.session.revisions command fault new.session.held
IsReviseFault command old _ new = ⊥

-- one revision more, or a refusal that keeps all
pub record RevisesOrNot (command : Command) (prior : Option ℕ) (q : ℕ) (old : Editing)
    (result : Result (Unit {0}) KeyFault) (new : Editing) : Type 0 where
  pub revises : OnOk result (AddsRevision command prior q old new)
  pub kept : OnErr result (KeepsAll old new)
  pub too_many : MOST_REVISIONS ≤ length old.session.revisions
      → IsErrOf result (Fault.Edit Edit.TooManyRevisions) ⊎ IsErrOf result (Fault.Edit Edit.Memory)
  pub fault : IfErr result (λ f. IsReviseFault command old f new)
  pub unchanged : IfErr result (λ f. LeavesSession f → new.session ≡ old.session)

-- ---- a key

-- what a key does to all but the sources and the message
pub record CarriesOut (key : Key) (old : Editing) (result : Result (Unit {0}) KeyFault) (new : Editing) : Type 0 where
  pub done : OnOk result (Does key old new)
  pub command : OnOk result (AppliesCommand key old new.session)
  pub kept : OnErr result (KeepsAll old new)
  pub too_long : IsErrOf result Fault.TooLong ↔ GrowsTooLong key old
  pub too_many : MakesRevision key old → ¬ IsErrOf result Fault.TooLong → MOST_REVISIONS ≤ length old.session.revisions
      → IsErrOf result (Fault.Edit Edit.TooManyRevisions) ⊎ IsErrOf result (Fault.Edit Edit.Memory)
  pub fault : IfErr result (λ f. IsPlainFault key old f new)
  pub unchanged : IfErr result (λ f. LeavesSession f → new.session ≡ old.session)
  pub sources : new.session.held.sources ≡ old.session.held.sources
