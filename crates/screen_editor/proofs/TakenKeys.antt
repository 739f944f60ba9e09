-- Keys that end no run.
use Rattle.std.proofs.Common.{◌≡◌, ℕ, List, [], ◌∷◌, Option, Some, None, Ok, inl, true, false, refl, sym, subst, ◌∙◌}
use Rattle.std.specs.Io.KnownBytes.{Consumes}
use Rattle.lazy_file.specs.Readings.{Reading, Reads}
use Rattle.edit_commands.specs.Session.{texts_of}
use Rattle.screen_editor.specs.declared.fault.KeyFault.{KeyFault}
use Rattle.screen_editor.specs.declared.fault.KeyFault.TheVariants as Fault
use Rattle.screen_editor.specs.declared.fault.End.{End}
use Rattle.screen_editor.specs.declared.key.Key.{Key}
use Rattle.screen_editor.specs.declared.key.Key.TheVariants.{Save, Leave}
use Rattle.screen_editor.specs.declared.key.Step.{Step}
use Rattle.screen_editor.specs.Editing.{Editing, EditorValue, state_of}
use Rattle.screen_editor.specs.Keys.{answer_to, key_of, looks_for_lines}
use Rattle.screen_editor.specs.Machine.{done}
use Rattle.screen_editor.specs.Refusals.{IsPlainFault, KeyAsks, key_source_fault}
use Rattle.screen_editor.specs.Runs.{AnswersByte, Shows}
use Rattle.screen_editor.specs.Turns.{IsTurn, Presses, TakesOne}
use Rattle.screen_editor.proofs.KeyPlans.{makes_none, no_source}
use Rattle.screen_editor.proofs.ToldKeys.{goes_on}

-- ---- a key that is refused ends no run

-- a key that leaves the texts as they are, without a look for line breaks, is taken
is_taken : (before now : Reading) (key : Key) (old new : Editing) (fault : KeyFault) → (done key (state_of no_source old)).texts ≡ texts_of no_source old.session → looks_for_lines key ≡ false
    → (key_source_fault fault ≡ None → IsPlainFault key old fault new) → Reads before now (KeyAsks key old) (key_source_fault fault) → ⊥
is_taken before now key old new Fault.TooLong same plain h reads = makes_none key old same (h refl)
is_taken before now key old new (Fault.Edit f) same plain h reads = makes_none key old same (h refl).0
is_taken before now key old new (Fault.Source f) same plain h reads = let e : true ≡ false = sym reads.asked.0 ∙ plain in absurd cc

pub refused_goes_on : (before now : Reading) (key : Key) (old new : Editing) (fault : KeyFault) → (key_source_fault fault ≡ None → IsPlainFault key old fault new) → Reads before now (KeyAsks key old) (key_source_fault fault) → answer_to key ≡ Step.Going
refused_goes_on before now key old new fault h reads = goes_on key
    (λ e. is_taken before now Save old new fault refl refl (subst (λ (k : Key). key_source_fault fault ≡ None → IsPlainFault k old fault new) e h) (subst (λ (k : Key). Reads before now (KeyAsks k old) (key_source_fault fault)) e reads))
    (λ e. is_taken before now Leave old new fault refl refl (subst (λ (k : Key). key_source_fault fault ≡ None → IsPlainFault k old fault new) e h) (subst (λ (k : Key). Reads before now (KeyAsks k old) (key_source_fault fault)) e reads))

-- ---- a key behind a frame, whose making changed nothing that the key sees

takes_one : (keys left before now : Option (List ℕ)) (answer : Step) (b : ℕ) (old mid new : EditorValue Reading)
    → Consumes keys left (b ∷ []) → Shows old.sources.stated before now (old.editing ∷ []) → mid.sources ≡ old.sources → mid.editing ≡ old.editing
    → AnswersByte mid.sources new.sources b mid.editing new.editing → answer_to (key_of b) ≡ answer → TakesOne keys left before now answer old new
takes_one keys left before now answer b old mid new key shown unfailed same h answers = record {
  byte = b;
  key = key;
  answers = answers;
  passes = subst (λ (e : Editing). AnswersByte old.sources new.sources b e new.editing) same (subst (λ (r : Reading). AnswersByte r new.sources b mid.editing new.editing) unfailed h);
  shown = shown;
}

pub turned : (keys left before now : Option (List ℕ)) (b : ℕ) (end : Option End) (old mid new : EditorValue Reading)
    → Consumes keys left (b ∷ []) → Shows old.sources.stated before now (old.editing ∷ []) → mid.sources ≡ old.sources → mid.editing ≡ old.editing
    → Presses mid b end new → IsTurn (record { keys = keys; screen = before }) (record { keys = left; screen = now }) old (Ok end) new
turned keys left before now b None old mid new key shown unfailed same h = takes_one keys left before now Step.Going b old mid new key shown unfailed same h.0 h.1
turned keys left before now b (Some End.Save) old mid new key shown unfailed same h = takes_one keys left before now Step.Save b old mid new key shown unfailed same h.0 h.1
turned keys left before now b (Some End.Leave) old mid new key shown unfailed same h = inl (takes_one keys left before now Step.Leave b old mid new key shown unfailed same h.0 h.1)
