-- A session that is gone on with keeps to the editor's rules; a saved one is opened with the texts and the priors that
-- it had.
use Rattle.std.proofs.Common.{◌≡◌, ℕ, ◌<◌, ◌≤◌, List, [], length, Option, None, refl, sym, ap, arith, ◌∙◌}
use Rattle.std.proofs.lemmas.List.{length-map}
use Rattle.edit_commands.specs.declared.revision.Revision.{Revision}
use Rattle.edit_commands.specs.Session.{SessionValue, IsSession, length_at, texts_of, edits_of}
use Rattle.screen_editor.specs.declared.workspace.TheConstants.{LONGEST_TEXT}
use Rattle.screen_editor.specs.Editing.{Editing, IsEditing, state_of}
use Rattle.screen_editor.specs.Opening.{GoesOnFrom, OpensSession, none, at_first_byte, there}
use Rattle.screen_editor.specs.Priors.{priors_of}
use Rattle.screen_editor.specs.State.{reopened}
use Rattle.screen_editor.proofs.PriorLaws.{count_priors, session_earlier}

pub opened_kept : (v : SessionValue) → IsSession v → 1 ≤ length v.revisions → ((k : ℕ) → k < length v.revisions → length_at v k ≤ LONGEST_TEXT) → IsEditing (at_first_byte v)
opened_kept v is some short = record {
  session = is;
  some = some;
  priors = omega (arith, count_priors [] (edits_of v.revisions), length-map v.revisions (λ (r : Revision). r.edit));
  named = refl;
  earlier = session_earlier v is;
  short = short;
  place = omega arith;
  mark = tt;
  few_cuts = omega arith;
  cuts = λ i d lt. absurd (omega (arith, lt));
}

-- the session that is gone on with is the one that was saved, where that has a revision
goes_on_with : (saved : SessionValue) (e : Editing) → 1 ≤ length saved.revisions → GoesOnFrom saved e.session → e.session ≡ saved
goes_on_with saved e some (there h same) = same
goes_on_with saved e some (none h applies) = let empty : length saved.revisions ≡ 0 = ap length h in absurd (omega (arith, some, empty))

pub opens_saved : (old e : Editing) (saved : SessionValue) → IsEditing old → OpensSession saved e → edits_of saved.revisions ≡ edits_of old.session.revisions
    → ((source : ℕ → ℕ → ℕ) → texts_of source saved ≡ texts_of source old.session) → (source : ℕ → ℕ → ℕ) → state_of source e ≡ reopened (state_of source old)
opens_saved old e saved is opens edits texts source =
    let count : length saved.revisions ≡ length old.session.revisions = omega (
      arith,
      ap length edits,
      length-map saved.revisions (λ (r : Revision). r.edit),
      length-map old.session.revisions (λ (r : Revision). r.edit),
    ) in
    let same = goes_on_with saved e (omega (arith, count, is.some)) opens.begins in
    ap (state_of source) (opens.at_first ∙ ap at_first_byte same)
    ∙ ap (λ (ts : List (List ℕ)). record { texts = ts; priors = priors_of (edits_of saved.revisions); place = 0; mark = None; cuts = []; message = None }) (texts source)
    ∙ ap (λ (ps : List (Option ℕ)). record { texts = texts_of source old.session; priors = ps; place = 0; mark = None; cuts = []; message = None }) (ap priors_of edits ∙ sym is.named)
