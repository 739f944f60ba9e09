-- A key that is taken, and the message behind it.
use Rattle.std.proofs.Common.{◌≡◌, ℕ, List, map, Result, Ok, Err, Option, Some, None, true, false, ◌⊎◌, inl, inr, refl, sym, ap, subst, ◌∙◌}
use Rattle.std.specs.Prelude.{IsTrue, IsErrOf}
use Rattle.rope_node.specs.Denotes.{text}
use Rattle.lazy_file.specs.Readings.{Reading}
use Rattle.edit_commands.specs.declared.fault.EditFault.{EditFault}
use Rattle.edit_commands.specs.declared.fault.EditFault.TheVariants as Edit
use Rattle.edit_commands.specs.declared.revision.Revision.{Revision}
use Rattle.edit_commands.specs.Session.{cells_of, texts_of}
use Rattle.screen_editor.specs.declared.fault.KeyFault.{KeyFault}
use Rattle.screen_editor.specs.declared.fault.KeyFault.TheVariants as Fault
use Rattle.screen_editor.specs.declared.key.Key.{Key}
use Rattle.screen_editor.specs.declared.key.Key.TheVariants.{Save, Leave}
use Rattle.screen_editor.specs.declared.key.Step.{Step}
use Rattle.screen_editor.specs.Editing.{Editing, key_code, state_of}
use Rattle.screen_editor.specs.Keys.{answer_to, looks_for_lines}
use Rattle.screen_editor.specs.LineKeys.{Takes}
use Rattle.screen_editor.specs.Machine.{done, message_after, step}
use Rattle.screen_editor.specs.Refusals.{IsEditFault, IsPlainFault, LeavesSession, WasRefused}
use Rattle.screen_editor.specs.Revising.{IsRefusedBy, IsStep, KeepsAll, TakesKey}
use Rattle.screen_editor.specs.State.{EditorState}

-- ---- the message of a key

-- Save and Leave keep it
pub saves : (key : Key) → Step.Save ≡ answer_to key → key ≡ Save
saves Save e = refl
saves _ e = absurd cc

pub leaves : (key : Key) → Step.Leave ≡ answer_to key → key ≡ Leave
leaves Leave e = refl
leaves _ e = absurd cc

-- each other key clears it
cleared : (key : Key) (m : Option (List ℕ)) → answer_to key ≡ Step.Going → message_after key m ≡ None
cleared Save m e = absurd cc
cleared Leave m e = absurd cc
cleared _ m e = refl

pub goes_on : (key : Key) → ((key ≡ Save) → ⊥) → ((key ≡ Leave) → ⊥) → answer_to key ≡ Step.Going
goes_on Save h k = absurd (h refl)
goes_on Leave h k = absurd (k refl)
goes_on _ h k = refl

-- ---- the same fault of another call

abbrev fault_or : {T : Type 0} → KeyFault → Result T KeyFault → KeyFault
fault_or f (Ok x) = f
fault_or f (Err e) = e

same_fault : {A B : Type 0} (f g : KeyFault) → IsErrOf {T = A} (Err f) g → IsErrOf {T = B} (Err f) g
same_fault f g e = ap (λ (x : KeyFault). Err x) (ap (fault_or f) e)

no_fault : {A : Type 0} (x : A) (g : KeyFault) → IsErrOf (Ok x) g → ⊥
no_fault x g e = absurd cc

-- ---- the message alone is new

met_alike : (key : Key) (old : Editing) (f : EditFault) (new : Editing) (m : Option KeyFault) → WasRefused key old f new → WasRefused key old f (record new { message = m })
met_alike key old f new m h = record { command = h.command; place = h.place; edit = h.edit; bytes = h.bytes; met = h.met }

edit_fault_alike : (key : Key) (old : Editing) (f : EditFault) (new : Editing) (m : Option KeyFault) → IsEditFault key old f new → IsEditFault key old f (record new { message = m })
edit_fault_alike key old Edit.TooManyRevisions new m h = h
edit_fault_alike key old Edit.Memory new m h = met_alike key old Edit.Memory new m h
edit_fault_alike key old Edit.NoRevision new m h = met_alike key old Edit.NoRevision new m h
edit_fault_alike key old Edit.NoSource new m h = met_alike key old Edit.NoSource new m h
edit_fault_alike key old Edit.Range new m h = met_alike key old Edit.Range new m h
edit_fault_alike key old Edit.EmptyText new m h = met_alike key old Edit.EmptyText new m h
edit_fault_alike key old Edit.SpliceCount new m h = met_alike key old Edit.SpliceCount new m h
edit_fault_alike key old Edit.TooManySplices new m h = met_alike key old Edit.TooManySplices new m h
edit_fault_alike key old Edit.TooManyRows new m h = met_alike key old Edit.TooManyRows new m h
edit_fault_alike key old (Edit.Node f) new m h = met_alike key old (Edit.Node f) new m h
edit_fault_alike key old Edit.TooManyPieces new m h = met_alike key old Edit.TooManyPieces new m h

fault_alike : (key : Key) (old : Editing) (f : KeyFault) (new : Editing) (m : Option KeyFault) → IsPlainFault key old f new → IsPlainFault key old f (record new { message = m })
fault_alike key old Fault.TooLong new m h = h
fault_alike key old (Fault.Edit f) new m h = (h.0, edit_fault_alike key old f new m h.1)
fault_alike key old (Fault.Source f) new m h = h

pub kept_texts : (old new : Editing) → KeepsAll old new → (source : ℕ → ℕ → ℕ) → texts_of source new.session ≡ texts_of source old.session
kept_texts old new h source = ap (map (text source)) (ap (λ (rs : List Revision). cells_of (record { held = new.session.held; revisions = rs })) h.revisions ∙ h.keeps.cells)

with_texts : Editing → KeyFault → List (List ℕ) → EditorState
with_texts old f ts = record { texts = ts; priors = old.priors; place = old.place; mark = old.mark; cuts = old.cuts; message = Some (key_code f) }

is_refused : (f : KeyFault) (old new : Editing) → KeepsAll old new → (LeavesSession f → new.session ≡ old.session) → IsRefusedBy f old (record new { message = Some f })
unfolding with_texts
is_refused f old new h same = record {
  state = λ source. ap (λ (e : Editing). state_of source (record e { message = Some f })) h.rest ∙ ap (with_texts old f) (kept_texts old new h source);
  keeps = h.keeps;
  revisions = h.revisions;
  rest = ap (λ (e : Editing). record e { message = Some f }) h.rest;
  unchanged = same;
}

pub refused_told : (key : Key) (before now : Reading) (old new told : Editing) (f : KeyFault) → Takes key before old (Err f) now new → told ≡ record new { message = Some f }
    → TakesKey key (record { sources = before; editing = old }) (Err f) (record { sources = now; editing = told })
refused_told key before now old new told f h e =
    subst (λ (x : Editing). TakesKey key (record { sources = before; editing = old }) (Err f) (record { sources = now; editing = x })) (sym e) (record {
      step = tt;
      answer = tt;
      refused = is_refused f old new h.kept h.unchanged;
      too_long = ((λ is. h.too_long.0 (same_fault f Fault.TooLong is)), (λ grows. same_fault f Fault.TooLong (h.too_long.1 grows)));
      too_many = λ makes short many. elim (h.too_many makes (λ is. short (same_fault f Fault.TooLong is)) many) [
        | inl is ↦ inl (same_fault f (Fault.Edit Edit.TooManyRevisions) is)
        | inr is ↦ inr (same_fault f (Fault.Edit Edit.Memory) is)
      ];
      fault = λ none. fault_alike key old f new (Some f) (h.fault none);
      reads = h.reads;
    })

-- ---- a key that was taken

taken_key : (key : Key) (before now : Reading) (old new told : Editing) (answer : Step) → Takes key before old (Ok tt) now new
    → answer_to key ≡ answer → IsStep before.stated key old told → TakesKey key (record { sources = before; editing = old }) (Ok answer) (record { sources = now; editing = told })
taken_key key before now old new told answer h is step = record {
  step = step;
  answer = sym is;
  refused = tt;
  too_long = ((λ no_such. absurd (no_fault answer Fault.TooLong no_such)), (λ grows. absurd (no_fault tt Fault.TooLong (h.too_long.1 grows))));
  too_many = λ makes short many. elim (h.too_many makes (λ no_such. no_fault tt Fault.TooLong no_such) many) [
    | inl no_such ↦ absurd (no_fault tt (Fault.Edit Edit.TooManyRevisions) no_such)
    | inr no_such ↦ absurd (no_fault tt (Fault.Edit Edit.Memory) no_such)
  ];
  fault = tt;
  reads = h.reads;
}

-- one that clears the message
pub going_told : (key : Key) (before now : Reading) (old new told : Editing) → Takes key before old (Ok tt) now new
    → answer_to key ≡ Step.Going → told ≡ record new { message = None } → TakesKey key (record { sources = before; editing = old }) (Ok Step.Going) (record { sources = now; editing = told })
going_told key before now old new told h is e =
    taken_key key before now old new told Step.Going h is
    (subst (λ (x : Editing). IsStep before.stated key old x) (sym e) (record {
      state = λ source agrees whole. ap (λ (s : EditorState). record s { message = None }) (h.done source agrees whole) ∙ ap (λ (m : Option (List ℕ)). record (done key (state_of source old)) { message = m }) (sym (cleared key (state_of source old).message is));
      command = h.command;
      moves = λ by_lines. ap (λ (x : Editing). record x { message = None }) (h.moves by_lines);
    }))

-- Save and Leave, which do nothing and keep it
does_nothing : (key : Key) (s : EditorState) → (key ≡ Save) ⊎ (key ≡ Leave) → done key s ≡ step key s
does_nothing key s (inl e) = subst (λ (k : Key). done k s ≡ step k s) (sym e) refl
does_nothing key s (inr e) = subst (λ (k : Key). done k s ≡ step k s) (sym e) refl

looks_for_none : (key : Key) → (key ≡ Save) ⊎ (key ≡ Leave) → IsTrue (looks_for_lines key) → ⊥
looks_for_none key (inl e) h = let same : false ≡ true = ap looks_for_lines (sym e) ∙ h in absurd cc
looks_for_none key (inr e) h = let same : false ≡ true = ap looks_for_lines (sym e) ∙ h in absurd cc

pub ending_told : (key : Key) (before now : Reading) (old new : Editing) (answer : Step) → Takes key before old (Ok tt) now new
    → answer_to key ≡ answer → (key ≡ Save) ⊎ (key ≡ Leave) → TakesKey key (record { sources = before; editing = old }) (Ok answer) (record { sources = now; editing = new })
ending_told key before now old new answer h is ends =
    taken_key key before now old new new answer h is (record {
      state = λ source agrees whole. h.done source agrees whole ∙ does_nothing key (state_of source old) ends;
      command = h.command;
      moves = λ by_lines. absurd (looks_for_none key ends by_lines);
    })
