-- What editing by keys that are typed at a terminal shows, and what it writes as the image of its session.
use Rattle.std.specs.Prelude.{◌≡◌, ◌↔◌, ℕ, List, Option, Result, Err}
use Rattle.std.specs.Io.KnownBytes.{Keeps}
use Rattle.lazy_file.specs.Readings.{Reading}
use Rattle.edit_commands.specs.Session.{SessionValue}
use Rattle.saved_session.specs.GoneFurther.{GoesFurther}
use Rattle.screen_editor.specs.declared.fault.EditorFault.{EditorFault}
use Rattle.screen_editor.specs.declared.fault.EditorFault.TheVariants.{TooLong}
use Rattle.screen_editor.specs.declared.fault.End.{End}
use Rattle.screen_editor.specs.declared.fault.RunFault.{RunFault}
use Rattle.screen_editor.specs.Editing.{EditorValue, seen}
use Rattle.screen_editor.specs.Refusals.{IsNewFault, IsTooLong}
use Rattle.screen_editor.specs.Revising.{IsMade}
use Rattle.screen_editor.specs.Typing.{ResumesTyped}
use Rattle.cord_tools.specs.declared.fault.ToolFault.{ToolFault}
use Rattle.cord_tools.specs.declared.status.Status.{Status}
use Rattle.cord_tools.specs.Editing.{Concludes}
use Rattle.cord_tools.specs.EditingOnto.{EditsOnto}
use Rattle.cord_tools.specs.Faults.{editor_fault}

-- From this first state on keys are played, and a run takes keys that are typed, which are kept, and shows some of its
-- states; behind the key Save the image of its last state is written, which goes further than the session that was begun
-- with.
pub record TypesToEnd {T : Type 0} (reading : T → Reading) (sizes : List ℕ) (begun : SessionValue)
    (hint : Option (List ℕ)) (played : List ℕ) (first : EditorValue T)
    (keys_before keys_left kept_before kept_now shown_before shown_now before now : Option (List ℕ))
    (result : Result Status ToolFault) : Type 0 where
  pub last : EditorValue T
  pub end : Result End RunFault
  pub resumes : ResumesTyped hint played keys_before keys_left kept_before kept_now shown_before shown_now
      (seen reading first) end (seen reading last)
  pub further : GoesFurther begun last.editing.session
  pub concludes : Concludes sizes end last.editing before now result

-- Over these sources there is no editor, which is told as a text too long exactly where source 0 is; or source 0 is
-- not, and there is one that plays these keys and takes those that are typed.
pub data EditsTyped {T : Type 0} (reading : T → Reading) (sources : T) (hint : Option (List ℕ)) (played : List ℕ)
    (keys_before keys_left kept_before kept_now shown_before shown_now before now : Option (List ℕ))
    (result : Result Status ToolFault) : Type 0 where
  not_made : (fault : EditorFault) → IsNewFault (reading sources).stated fault
      → (fault ≡ TooLong) ↔ IsTooLong (reading sources).stated → result ≡ Err (editor_fault fault)
      → Keeps keys_before keys_left → Keeps kept_before kept_now → Keeps shown_before shown_now → Keeps before now
      → EditsTyped reading sources hint played keys_before keys_left kept_before kept_now shown_before shown_now before now
      result
  ran : (first : EditorValue T) → first.sources ≡ sources → ¬ IsTooLong (reading sources).stated
      → IsMade (reading sources).stated.sizes first.editing
      → TypesToEnd reading (reading sources).stated.sizes first.editing.session hint played first keys_before keys_left
      kept_before kept_now shown_before shown_now before now result
      → EditsTyped reading sources hint played keys_before keys_left kept_before kept_now shown_before shown_now before now
      result

-- the editor over an image, by keys that are typed
abbrev pub EditsTypedOnto : {T : Type 0} → (T → Reading) → T → List ℕ → Option (List ℕ) → List ℕ → Option (List ℕ)
    → Option (List ℕ) → Option (List ℕ) → Option (List ℕ) → Option (List ℕ) → Option (List ℕ) → Option (List ℕ)
    → Option (List ℕ) → Result Status ToolFault → Type 0
EditsTypedOnto reading sources image hint played keys_before keys_left kept_before kept_now shown_before shown_now before
    now result =
    EditsOnto reading sources image (Keeps keys_before keys_left × Keeps kept_before kept_now
    × Keeps shown_before shown_now × Keeps before now)
    (λ begun first. TypesToEnd reading (reading sources).stated.sizes begun hint played first keys_before keys_left
    kept_before kept_now shown_before shown_now before now result) result
