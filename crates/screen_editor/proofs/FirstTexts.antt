-- The text of a session's first revision.
use Rattle.std.proofs.Common.{◌≡◌, ℕ, ◌<◌, ◌≤◌, inl, inr, List, [], ◌∷◌, ◌++◌, length, map, get_or, Option, Some, None, Bool, true, false, refl, sym, ap, subst, arith, ◌∙◌}
use Rattle.std.specs.Prelude.{◌↔◌, slice_get, IsTrue}
use Rattle.std.specs.List.{range_with_len}
use Rattle.std.proofs.lemmas.List.{length-map}
use Rattle.std.proofs.lemmas.List.FromFn.{length-range_with_len}
use Rattle.std.proofs.lemmas.Bool.{cases_lt}
use Rattle.std.proofs.lemmas.Option.{same_Some}
use Rattle.lazy_file.specs.SourceTexts.{Stated}
use Rattle.command_parts.specs.declared.edit.Edit.{Edit}
use Rattle.command_parts.specs.declared.edit.Splice.{Splice}
use Rattle.command_parts.specs.Commands.{FullEdit, result_of, with_splices}
use Rattle.edit_commands.specs.declared.revision.Revision.{Revision}
use Rattle.edit_commands.specs.Applying.{Applies}
use Rattle.edit_commands.specs.Building.{splices_with}
use Rattle.edit_commands.specs.Session.{HoldsHistory, SessionValue, command_of, commands_of, length_at, splices_held, session_table, text_givens, texts_of, edits_of}
use Rattle.screen_editor.specs.declared.workspace.TheConstants.{LONGEST_TEXT}
use Rattle.screen_editor.specs.Editing.{Editing, state_of}
use Rattle.screen_editor.specs.Opening.{IsFirstSession, at_first_byte}
use Rattle.screen_editor.specs.Priors.{priors_of}
use Rattle.screen_editor.specs.Recorded.{HandsNoChanges, edit_at}
use Rattle.screen_editor.specs.Refusals.{IsTooLong, first_command}
use Rattle.screen_editor.specs.Revising.{IsMade, first_text}
use Rattle.screen_editor.proofs.NewTexts.{plain_edit, plain_says, text_len}

alone : (ts : List (List ℕ)) (t : List ℕ) → length ts ≡ 1 → slice_get ts 0 ≡ Some t → ts ≡ t ∷ []
alone [] t e h = absurd cc
alone (x ∷ []) t e h = ap (λ (y : List ℕ). y ∷ []) (same_Some x t h)
alone (x ∷ y ∷ ts) t e h = absurd (omega (arith, e))

-- what the first command gives
given_first : (source : ℕ → ℕ → ℕ) (v : SessionValue) (sizes : List ℕ) (a : ℕ) → v.held.sources ≡ sizes → result_of (text_givens source (session_table v)) [] (with_splices [] (edit_at a (first_command sizes))) ≡ Some (first_text source sizes)
given_first source v [] a e = refl
given_first source v (n ∷ sizes) a e = ap (λ (s : List ℕ). slice_get (map (λ (k : ℕ). map (source k) (range_with_len 0 (get_or s k 0))) (range_with_len 0 (length s))) 0) e

-- it is recorded alike wherever the pool ends
first_anywhere : (sizes : List ℕ) (a : ℕ) → edit_at a (first_command sizes) ≡ edit_at 0 (first_command sizes)
first_anywhere [] a = refl
first_anywhere (n ∷ sizes) a = refl

first_plain : (sizes : List ℕ) → HandsNoChanges (first_command sizes)
first_plain [] = tt
first_plain (n ∷ sizes) = tt

first_len : (source : ℕ → ℕ → ℕ) (sizes : List ℕ) → length (first_text source sizes) ≡ get_or sizes 0 0
first_len source [] = refl
first_len source (n ∷ sizes) = length-map (range_with_len 0 n) (source 0) ∙ length-range_with_len 0 n

pub first_made : (sizes : List ℕ) (old new : SessionValue) (k : ℕ) → Applies old (first_command old.held.sources) k new → old.held.sources ≡ sizes → old.revisions ≡ [] → HoldsHistory new → get_or sizes 0 0 ≤ LONGEST_TEXT → IsFirstSession sizes new
first_made sizes old new k applies is_sources none history short =
    let h = subst (λ (s : List ℕ). Applies old (first_command s) k new) is_sources applies in
    let sources : new.held.sources ≡ sizes = h.keeps.goes_on.sources ∙ is_sources in
    let revisions : new.revisions ≡ h.made ∷ [] = h.revisions ∙ ap (λ (rs : List Revision). rs ++ h.made ∷ []) none in
    let place = get_or h.is.places 0 0 in
    let says : command_of h.made ≡ with_splices [] (edit_at place (first_command sizes)) =
    ap (λ (ss : List Splice). with_splices ss h.made.edit) h.is.splices ∙ ap (with_splices (splices_with h.is.places (first_command sizes))) h.is.edit ∙ plain_says h.is.places (splices_held old.revisions) (first_command sizes) (first_plain sizes) in
    let command : slice_get (commands_of new.revisions) 0 ≡ Some (with_splices [] (edit_at place (first_command sizes))) = ap (λ (rs : List Revision). slice_get (commands_of rs) 0) revisions ∙ ap (λ (x : FullEdit). Some x) says in
    let edit = h.is.edit ∙ plain_edit h.is.places (splices_held old.revisions) (first_command sizes) (first_plain sizes) in
    let text = texts_are sizes new (with_splices [] (edit_at place (first_command sizes))) history command (ap (λ (rs : List Revision). length (commands_of rs)) revisions) (λ source. given_first source new sizes place sources) in
    record {
      sources = sources;
      one = ap length revisions;
      command = ap edits_of revisions ∙ ap (λ (x : Edit). x ∷ []) (edit ∙ first_anywhere sizes place);
      text = text;
      short = rw (sym (text_len new history (λ s p. 0) 0), ap (λ (ts : List (List ℕ)). length (get_or ts 0 [])) (text (λ s p. 0)), first_len (λ s p. 0) sizes) short;
    }
  where
    texts_are : (sizes : List ℕ) (new : SessionValue) (edit : FullEdit) → HoldsHistory new → slice_get (commands_of new.revisions) 0 ≡ Some edit → length (commands_of new.revisions) ≡ 1
        → ((source : ℕ → ℕ → ℕ) → result_of (text_givens source (session_table new)) [] edit ≡ Some (first_text source sizes)) → (source : ℕ → ℕ → ℕ) → texts_of source new ≡ first_text source sizes ∷ []
    texts_are sizes new edit history command one given source =
        alone (texts_of source new) (first_text source sizes) ((history.texts source).whole ∙ one) ((history.texts source).each 0 edit command ∙ given source)

pub first_short : (sizes : List ℕ) (v : SessionValue) → IsFirstSession sizes v → (k : ℕ) → k < length v.revisions → length_at v k ≤ LONGEST_TEXT
first_short sizes v first k lt = let at : 0 ≡ k = omega (arith, lt, first.one) in subst (λ n. length_at v n ≤ LONGEST_TEXT) at first.short

pub is_short_source : (test : Bool) (sizes : List ℕ) → (IsTrue test) ↔ (LONGEST_TEXT < get_or sizes 0 0) → test ≡ false → get_or sizes 0 0 ≤ LONGEST_TEXT
is_short_source test sizes h e = elim (cases_lt LONGEST_TEXT (get_or sizes 0 0)) [
  | inl long ↦ (let same : false ≡ true = sym e ∙ h.1 long in absurd cc)
  | inr short ↦ short
]

pub is_short : (test : Bool) (st : Stated) → (IsTrue test) ↔ IsTooLong st → test ≡ false → get_or st.sizes 0 0 ≤ LONGEST_TEXT
is_short test st h e = is_short_source test st.sizes h e

-- an editor of such a session, at its first byte
first_prior : (sizes : List ℕ) → priors_of (edit_at 0 (first_command sizes) ∷ []) ≡ None ∷ []
first_prior [] = refl
first_prior (n ∷ sizes) = refl

pub begun : (sizes : List ℕ) (v : SessionValue) (e : Editing) → IsFirstSession sizes v → e ≡ at_first_byte v → IsMade sizes e
begun sizes v e first is = record {
  state = λ source. ap (state_of source) is
      ∙ ap (λ (ps : List (Option ℕ)). record { texts = texts_of source v; priors = ps; place = 0; mark = None; cuts = []; message = None }) (ap priors_of first.command ∙ first_prior sizes)
      ∙ ap (λ (ts : List (List ℕ)). record { texts = ts; priors = None ∷ []; place = 0; mark = None; cuts = []; message = None }) (first.text source);
  command = ap (λ (x : Editing). edits_of x.session.revisions) is ∙ first.command;
}
