-- A session goes further by each key.
use Rattle.std.proofs.Common.{◌≡◌, ℕ, List, [], ◌∷◌, length, Some, Result, Ok, Err, sym, subst, ◌∙◌}
use Rattle.std.specs.Prelude.{slice_get}
use Rattle.std.proofs.lemmas.List.{append-nil}
use Rattle.lazy_file.specs.Readings.{Reading}
use Rattle.edit_commands.specs.Session.{SessionValue}
use Rattle.saved_session.specs.GoneFurther.{GoesFurther}
use Rattle.saved_session.proofs.FurtherSessions.{further_applied, further_itself, further_through}
use Rattle.screen_editor.specs.declared.fault.KeyFault.{KeyFault}
use Rattle.screen_editor.specs.declared.key.Key.{Key}
use Rattle.screen_editor.specs.declared.key.Step.{Step}
use Rattle.screen_editor.specs.Editing.{Editing, EditorValue}
use Rattle.screen_editor.specs.Keys.{key_of}
use Rattle.screen_editor.specs.Opening.{GoesOnFrom}
use Rattle.screen_editor.specs.Revising.{AppliesCommand, TakesKey}
use Rattle.screen_editor.specs.Runs.{StatesFollow, AnswersByte}

further_by : {key : Key} {old : Editing} {new : SessionValue} → AppliesCommand key old new → GoesFurther old.session new
further_by {key} {old} {new} (AppliesCommand.none unasked same) = subst (GoesFurther old.session) (sym same) (further_itself old.session)
further_by (AppliesCommand.one command plain is applies) = further_applied applies

taken_further : (key : Key) (old new : EditorValue Reading) (result : Result Step KeyFault) → TakesKey key old result new → GoesFurther old.editing.session new.editing.session
taken_further key old new (Ok answer) t = further_by t.step.command
taken_further key old new (Err fault) t = record {
  more = [];
  revisions = t.refused.revisions ∙ sym (append-nil old.editing.session.revisions);
  keeps = t.refused.keeps;
}

passes_further : {first now : Reading} {b : ℕ} {old new : Editing} → AnswersByte first now b old new → GoesFurther old.session new.session
passes_further {first} {now} {b} {old} {new} p = taken_further (key_of b) (record { sources = first; editing = old }) (record { sources = now; editing = new }) p.result p.takes

pub keys_further : (first last : Reading) (old new : Editing) (keys : List ℕ) (behind : List Editing) → StatesFollow first last old keys behind
    → slice_get (old ∷ behind) (length keys) ≡ Some new → GoesFurther old.session new.session
keys_further first last old new [] [] follow is = let same : old ≡ new = cc in subst (λ (e : Editing). GoesFurther old.session e.session) same (further_itself old.session)
keys_further first last old new [] (e ∷ es) follow is = absurd follow
keys_further first last old new (b ∷ bs) [] follow is = absurd follow
keys_further first last old new (b ∷ bs) (e ∷ es) follow is = further_through (passes_further follow.1) (keys_further follow.0 last e new bs es follow.2 is)

pub begins_further : {old new : SessionValue} → GoesOnFrom old new → GoesFurther old new
begins_further {old} (GoesOnFrom.there some same) = subst (GoesFurther old) (sym same) (further_itself old)
begins_further (GoesOnFrom.none empty applies) = further_applied applies
