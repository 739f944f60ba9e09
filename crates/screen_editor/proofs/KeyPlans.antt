-- What a key does by one command of the session, and what one does that makes no revision.
use Rattle.std.proofs.Common.{◌≡◌, ℕ, ◌+◌, ◌-◌, ◌<◌, ◌≤◌, List, [], ◌∷◌, ◌++◌, length, get_or, Option, Some, None, Result, Ok, Err, refl, sym, ap, subst, arith, ◌∙◌}
use Rattle.std.specs.Prelude.{IsErrOf}
use Rattle.std.specs.Option.{option_map}
use Rattle.std.proofs.lemmas.List.{length-append}
use Rattle.std.proofs.Math.Seq.{get_or-append_seam}
use Rattle.rope_node.proofs.Ropes.{extends_itself}
use Rattle.function_leaf.specs.Coded.{coded_byte}
use Rattle.node_table.specs.Held.{table_of}
use Rattle.edit_commands.specs.declared.command.Command.{Command}
use Rattle.edit_commands.specs.declared.fault.EditFault.{EditFault}
use Rattle.edit_commands.specs.declared.fault.EditFault.TheVariants as Edit
use Rattle.edit_commands.specs.Applying.{Applies}
use Rattle.edit_commands.specs.Refusals.{bytes_of, result_len}
use Rattle.edit_commands.specs.Session.{SessionValue, HoldsHistory, texts_of}
use Rattle.screen_editor.specs.declared.cut_span.CutSpan.{CutSpan}
use Rattle.screen_editor.specs.declared.fault.KeyFault.{KeyFault}
use Rattle.screen_editor.specs.declared.fault.KeyFault.TheVariants as Fault
use Rattle.screen_editor.specs.declared.key.Key.{Key}
use Rattle.screen_editor.specs.declared.workspace.TheConstants.{LONGEST_TEXT}
use Rattle.screen_editor.specs.Editing.{Editing, IsEditing, current_len, key_code, last_of, state_of}
use Rattle.screen_editor.specs.Machine.{done, edit_by_key, revised}
use Rattle.screen_editor.specs.Recorded.{edit_at}
use Rattle.screen_editor.specs.Refusals.{GrowsTooLong, IsPlainFault, MakesRevision, typed_bytes}
use Rattle.screen_editor.specs.Revising.{AppliesCommand, Does, KeepsAll}
use Rattle.screen_editor.specs.State.{EditorState, current}
use Rattle.screen_editor.specs.Taking.{IsInOrder, IsReviseFault, RevisesOrNot, CarriesOut}
use Rattle.screen_editor.proofs.NewTexts.{count_texts, given_len, plain_of, text_given, text_len, texts_more}

pub no_source : ℕ → ℕ → ℕ
no_source s p = 0

not_too_long : {f : EditFault} → ¬ (IsErrOf {T = Unit {0}} (Err (Fault.Edit f)) Fault.TooLong)
not_too_long e = cc

-- ---- the current text

pub current_text_len : (e : Editing) → HoldsHistory e.session → (source : ℕ → ℕ → ℕ) → length (current (state_of source e)) ≡ current_len e
current_text_len e h source = text_len e.session h source _ ∙ ap (λ n. Rattle.edit_commands.specs.Session.length_at e.session (n - 1)) (count_texts e.session source)

-- ---- nothing changes

pub all_kept : (e : Editing) → KeepsAll e e
all_kept e = record {
  keeps = record {
    goes_on = record { kept = extends_itself (table_of coded_byte e.session.held); functions = record { same = λ id lt. refl; more = omega arith }; sources = refl };
    cells = refl;
  };
  revisions = refl;
  rest = refl;
}

-- a key whose text would be too long
pub too_long_kept : (key : Key) (e : Editing) → MakesRevision key e → GrowsTooLong key e → CarriesOut key e (Err Fault.TooLong) e
too_long_kept key e one long = record {
  done = tt;
  command = tt;
  kept = all_kept e;
  too_long = (λ _. long, λ _. refl);
  too_many = λ m no full. absurd (no refl);
  fault = one;
  unchanged = λ _. refl;
  sources = refl;
}

-- ---- no revision

-- a key that leaves the texts as they are makes no revision
pub makes_none : (key : Key) (e : Editing) → (done key (state_of no_source e)).texts ≡ texts_of no_source e.session → MakesRevision key e → ⊥
makes_none key e same one =
    let count : length (done key (state_of no_source e)).texts ≡ length e.session.revisions = ap length same ∙ count_texts e.session no_source in
    let l = one no_source in
    omega (arith, count, l)

pub stays_short : (key : Key) (e : Editing) → IsEditing e → HoldsHistory e.session → (done key (state_of no_source e)).texts ≡ texts_of no_source e.session → GrowsTooLong key e → ⊥
stays_short key e is h same long =
    let len : length (current (done key (state_of no_source e))) ≡ current_len e = ap (λ (ts : List (List ℕ)). length (get_or ts (length ts - 1) [])) same ∙ current_text_len e h no_source in
    let short = is.short (last_of e) (omega (arith, is.some)) in
    let l = long no_source in
    omega (arith, len, short, l)

pub record Stays (key : Key) (old new : Editing) : Type 0 where
  pub texts : (source : ℕ → ℕ → ℕ) → (done key (state_of source old)).texts ≡ texts_of source old.session
  pub edit : (a : ℕ) (source : ℕ → ℕ → ℕ) → edit_by_key a key (state_of source old) ≡ None
  pub does : Does key old new
  pub session : new.session ≡ old.session

pub stays : (key : Key) (old new : Editing) → IsEditing old → HoldsHistory old.session → Stays key old new → CarriesOut key old (Ok tt) new
stays key old new e h s = record {
  done = s.does;
  command = AppliesCommand.none s.edit s.session;
  kept = tt;
  too_long = (λ x. absurd cc, λ long. absurd (stays_short key old e h (s.texts no_source) long));
  too_many = λ one no full. absurd (makes_none key old (s.texts no_source) one);
  fault = tt;
  unchanged = tt;
  sources = ap (λ (v : SessionValue). v.held.sources) s.session;
}

pub idle : (key : Key) (e : Editing) → IsEditing e → HoldsHistory e.session → ((source : ℕ → ℕ → ℕ) → done key (state_of source e) ≡ state_of source e)
    → ((a : ℕ) (source : ℕ → ℕ → ℕ) → edit_by_key a key (state_of source e) ≡ None) → CarriesOut key e (Ok tt) e
idle key e is h same none = stays key e e is h (record {
  texts = λ source. ap (λ (s : EditorState). s.texts) (same source);
  edit = none;
  does = λ source. sym (same source);
  session = refl;
})

-- ---- a revision more

-- the current text is then the one given
pub current_revised : (source : ℕ → ℕ → ℕ) (e : Editing) (t : List ℕ) → get_or (texts_of source e.session ++ t ∷ []) (length (texts_of source e.session ++ t ∷ []) - 1) [] ≡ t
current_revised source e t =
    let texts = texts_of source e.session in
    let last : length (texts ++ t ∷ []) - 1 ≡ length texts = omega (arith, length-append texts (t ∷ [])) in
    ap (λ n. get_or (texts ++ t ∷ []) n []) last ∙ get_or-append_seam texts t [] []

count_revised : (source : ℕ → ℕ → ℕ) (e : Editing) (t : List ℕ) → length (texts_of source e.session ++ t ∷ []) ≡ length e.session.revisions + 1
count_revised source e t = length-append (texts_of source e.session) (t ∷ []) ∙ ap (λ n. n + 1) (count_texts e.session source)

-- a key whose text would be too long is refused
pub long_kept : (key : Key) (e : Editing) (prior : Option ℕ) (q : ℕ) (t : (ℕ → ℕ → ℕ) → List ℕ) → ((source : ℕ → ℕ → ℕ) → done key (state_of source e) ≡ revised (state_of source e) (t source) prior q)
    → ((source : ℕ → ℕ → ℕ) → LONGEST_TEXT < length (t source)) → CarriesOut key e (Err Fault.TooLong) e
long_kept key e prior q t does long = too_long_kept key e
    (λ source. ap (λ (s : EditorState). length s.texts) (does source) ∙ count_revised source e (t source))
    (λ source. subst (λ n. LONGEST_TEXT < n) (sym (ap (λ (s : EditorState). length (current s)) (does source) ∙ ap length (current_revised source e (t source)))) (long source))

-- the command by which the key does its work on this session, with the revision's prior, the place and the cut spans
-- after it
pub record IsPlan (key : Key) (e : Editing) (command : Command) (prior : Option ℕ) (q : ℕ) (cuts : List CutSpan) : Type 0 where
  pub edit : (a : ℕ) (source : ℕ → ℕ → ℕ) → edit_by_key a key (state_of source e) ≡ Some (edit_at a command)
  pub bytes : bytes_of command ≡ typed_bytes key
  pub does : (source : ℕ → ℕ → ℕ) → done key (state_of source e) ≡ record (revised (state_of source e) (text_given (texts_of source e.session) command) prior q) { cuts = cuts }
  pub order : IsInOrder e.session command
  pub short : result_len e.session command ≤ LONGEST_TEXT

-- it makes one revision, and its text is not too long
makes_one : (key : Key) (e : Editing) (command : Command) (prior : Option ℕ) (q : ℕ) (cuts : List CutSpan) → IsPlan key e command prior q cuts → MakesRevision key e
makes_one key e command prior q cuts p source =
    ap (λ (s : EditorState). length s.texts) (p.does source) ∙ count_revised source e (text_given (texts_of source e.session) command)

not_long : (key : Key) (e : Editing) (command : Command) (prior : Option ℕ) (q : ℕ) (cuts : List CutSpan) → HoldsHistory e.session → IsPlan key e command prior q cuts → GrowsTooLong key e → ⊥
not_long key e command prior q cuts h p long =
    let len : length (current (done key (state_of no_source e))) ≡ result_len e.session command =
    ap (λ (s : EditorState). length (current s)) (p.does no_source) ∙ ap length (current_revised no_source e (text_given (texts_of no_source e.session) command)) ∙ given_len e.session h no_source command p.order in
    let l = long no_source in
    let short = p.short in
    omega (arith, len, l, short)

pub plan_taken : (key : Key) (old : Editing) (command : Command) (prior : Option ℕ) (q : ℕ) (cuts : List CutSpan) (mid new : Editing) → HoldsHistory old.session → IsPlan key old command prior q cuts
    → RevisesOrNot command prior q old (Ok tt) mid → new ≡ record mid { cuts = cuts } → CarriesOut key old (Ok tt) new
plan_taken key old command prior q cuts mid new h p r is = record {
  done = does;
  command = AppliesCommand.one command (plain_of old.session command p.order) p.edit
      (subst (λ (v : SessionValue). Applies old.session command (length old.session.revisions) v)
      (sym (ap (λ (n : Editing). n.session) is)) r.revises.applies);
  kept = tt;
  too_long = (λ x. absurd cc, λ long. absurd (not_long key old command prior q cuts h p long));
  too_many = λ one no full. r.too_many full;
  fault = tt;
  unchanged = tt;
  sources = ap (λ (n : Editing). n.session.held.sources) is ∙ r.revises.applies.keeps.goes_on.sources;
}
  where
    does : Does key old new
    does source =
        ap (state_of source) (is ∙ ap (λ (m : Editing). record m { cuts = cuts }) r.revises.rest)
        ∙ ap (λ (ts : List (List ℕ)). record { texts = ts; priors = old.priors ++ prior ∷ []; place = q; mark = None; cuts = cuts; message = option_map key_code old.message }) (texts_more old.session command mid.session p.order r.revises.applies source)
        ∙ sym (p.does source)

plan_fault : (key : Key) (old : Editing) (command : Command) (f : KeyFault) (new : Editing) → ((a : ℕ) (source : ℕ → ℕ → ℕ) → edit_by_key a key (state_of source old) ≡ Some (edit_at a command)) → bytes_of command ≡ typed_bytes key → MakesRevision key old
    → IsReviseFault command old f new → IsPlainFault key old f new
plan_fault key old command Fault.TooLong new edit bytes one h = absurd h
plan_fault key old command (Fault.Source f) new edit bytes one h = absurd h
plan_fault key old command (Fault.Edit Edit.NoRevision) new edit bytes one h = absurd h
plan_fault key old command (Fault.Edit Edit.NoSource) new edit bytes one h = absurd h
plan_fault key old command (Fault.Edit Edit.Range) new edit bytes one h = absurd h
plan_fault key old command (Fault.Edit Edit.EmptyText) new edit bytes one h = absurd h
plan_fault key old command (Fault.Edit Edit.SpliceCount) new edit bytes one h = absurd h
plan_fault key old command (Fault.Edit Edit.TooManySplices) new edit bytes one h = absurd h
plan_fault key old command (Fault.Edit Edit.TooManyRevisions) new edit bytes one h = (one, h)
plan_fault key old command (Fault.Edit Edit.TooManyRows) new edit bytes one h = (one, record { command = command; place = 0; edit = edit 0; bytes = bytes; met = h })
plan_fault key old command (Fault.Edit (Edit.Node n)) new edit bytes one h = (one, record { command = command; place = 0; edit = edit 0; bytes = bytes; met = h })
plan_fault key old command (Fault.Edit Edit.TooManyPieces) new edit bytes one h = (one, record { command = command; place = 0; edit = edit 0; bytes = bytes; met = h })
plan_fault key old command (Fault.Edit Edit.Memory) new edit bytes one h = (one, record { command = command; place = 0; edit = edit 0; bytes = bytes; met = h })

pub plan_refused : (key : Key) (old : Editing) (command : Command) (prior : Option ℕ) (q : ℕ) (cuts : List CutSpan) (f : KeyFault) (new : Editing) → HoldsHistory old.session → IsPlan key old command prior q cuts
    → RevisesOrNot command prior q old (Err f) new → CarriesOut key old (Err f) new
plan_refused key old command prior q cuts f new h p r = record {
  done = tt;
  command = tt;
  kept = r.kept;
  too_long = (λ x. absurd (not_this f (same f x) r.fault), λ long. absurd (not_long key old command prior q cuts h p long));
  too_many = λ one no full. r.too_many full;
  fault = plan_fault key old command f new p.edit p.bytes (makes_one key old command prior q cuts p) r.fault;
  unchanged = r.unchanged;
  sources = r.kept.keeps.goes_on.sources;
}
  where
    same : (g : KeyFault) → IsErrOf {T = Unit {0}} (Err g) Fault.TooLong → g ≡ Fault.TooLong
    same g e = cc

    not_this : (g : KeyFault) → g ≡ Fault.TooLong → IsReviseFault command old g new → ⊥
    not_this g e h = subst (λ k. IsReviseFault command old k new) e h

-- a key that leaves the cut spans as they are
pub plan_takes : (key : Key) (old : Editing) (command : Command) (prior : Option ℕ) (q : ℕ) (result : Result (Unit {0}) KeyFault) (new : Editing) → HoldsHistory old.session → IsPlan key old command prior q old.cuts
    → RevisesOrNot command prior q old result new → CarriesOut key old result new
plan_takes key old command prior q (Ok done) new h p r =
    plan_taken key old command prior q old.cuts new new h p r (ap (λ (cs : List CutSpan). record new { cuts = cs }) (ap (λ (e : Editing). e.cuts) r.revises.rest))
plan_takes key old command prior q (Err f) new h p r = plan_refused key old command prior q old.cuts f new h p r
