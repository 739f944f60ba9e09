-- The commands of a session after a key.
use Rattle.std.proofs.Common.{◌≡◌, ℕ, [], ◌++◌, get_or, Option, sym, ap, ◌∙◌}
use Rattle.std.specs.List.{cons_option}
use Rattle.std.proofs.lemmas.List.{append-nil}
use Rattle.command_parts.specs.declared.edit.Edit.{Edit}
use Rattle.edit_commands.specs.Session.{SessionValue, edits_of}
use Rattle.screen_editor.specs.declared.key.Key.{Key}
use Rattle.screen_editor.specs.Editing.{Editing, state_of}
use Rattle.screen_editor.specs.Machine.{edit_by_key}
use Rattle.screen_editor.specs.Revising.{AppliesCommand, none, one}
use Rattle.screen_editor.proofs.NewTexts.{edits_more}

-- those before it, and the key's, if it makes one
pub edits_after : (key : Key) (old : Editing) (new : SessionValue) → AppliesCommand key old new
    → (place : ℕ) × ((source : ℕ → ℕ → ℕ) → edits_of new.revisions ≡ edits_of old.session.revisions ++ cons_option (edit_by_key place key (state_of source old)) [])
edits_after key old new (none edit same) = (
  0,
  λ source. ap (λ (v : SessionValue). edits_of v.revisions) same ∙ sym (append-nil (edits_of old.session.revisions))
      ∙ ap (λ (o : Option Edit). edits_of old.session.revisions ++ cons_option o []) (sym (edit 0 source)),
)
edits_after key old new (one command plain edit applies) = (
  get_or applies.is.places 0 0,
  λ source. edits_more old.session command new plain applies
      ∙ ap (λ (o : Option Edit). edits_of old.session.revisions ++ cons_option o []) (sym (edit (get_or applies.is.places 0 0) source)),
)
