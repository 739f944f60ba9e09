-- What editing a file shows, and what it writes as the image of its session.
use Rattle.std.specs.Prelude.{◌≡◌, ◌↔◌, ◌⊎◌, ◌++◌, ℕ, List, [], Option, Result, Ok, Err, OnOk}
use Rattle.std.specs.Int.{w64, to_be_bytes}
use Rattle.std.specs.Io.KnownBytes.{Keeps}
use Rattle.byte_output.specs.declared.writing.WriteFault.{WriteFault}
use Rattle.lazy_file.specs.Readings.{Reading}
use Rattle.image_reader.specs.declared.header.TheConstants.{MAGIC}
use Rattle.image_reader.specs.Spelling.{spelling}
use Rattle.image_reader.specs.Value.{IsImage}
use Rattle.screen_editor.specs.declared.fault.EditorFault.{EditorFault}
use Rattle.screen_editor.specs.declared.fault.EditorFault.TheVariants.{TooLong}
use Rattle.screen_editor.specs.declared.fault.End.{End}
use Rattle.screen_editor.specs.declared.fault.End.TheVariants.{Save, Leave}
use Rattle.screen_editor.specs.declared.fault.RunFault.{RunFault}
use Rattle.screen_editor.specs.Editing.{Editing, EditorValue, seen}
use Rattle.screen_editor.specs.Refusals.{IsNewFault, IsTooLong}
use Rattle.screen_editor.specs.Revising.{IsMade}
use Rattle.screen_editor.specs.Playing.{Resumes}
use Rattle.screen_editor.specs.Runs.{IsRun}
use Rattle.edit_commands.specs.Session.{SessionValue}
use Rattle.saved_session.specs.GoneFurther.{GoesFurther}
use Rattle.session_image.specs.Written.{IsTrusted, Writes, image_of}
use Rattle.cord_tools.specs.declared.fault.ToolFault.{ToolFault}
use Rattle.cord_tools.specs.declared.fault.ToolFault.TheVariants as Tool
use Rattle.cord_tools.specs.declared.status.Status.{Status}
use Rattle.cord_tools.specs.declared.status.Status.TheVariants.{Success}
use Rattle.cord_tools.specs.Faults.{editor_fault, run_fault}

-- what the write of an image comes to
abbrev pub saved : Result (Unit {0}) WriteFault → Result Status ToolFault
saved (Ok _) = Ok Success
saved (Err _) = Err Tool.Write

-- the image of the last state was written, or a prefix of it; its sources have these sizes, and it keeps the rules of
-- acceptance, whatever they hold
pub record SavesImage (sizes : List ℕ) (last : Editing) (before now : Option (List ℕ))
    (result : Result Status ToolFault) : Type 0 where
  pub sources : last.session.held.sources ≡ sizes
  pub written : Result (Unit {0}) WriteFault
  pub image : Writes before now (spelling (image_of last.session)) written
  pub is_image : OnOk written (IsImage (image_of last.session))
  pub trusted : IsTrusted last.session
  pub answer : result ≡ saved written

-- what follows the end of a run: an image behind the key Save alone
abbrev pub Concludes : List ℕ → Result End RunFault → Editing → Option (List ℕ) → Option (List ℕ)
    → Result Status ToolFault → Type 0
Concludes sizes (Ok Save) last before now result = SavesImage sizes last before now result
Concludes sizes (Ok Leave) last before now result = (result ≡ Ok Success) × Keeps before now
Concludes sizes (Err fault) last before now result = (result ≡ Err (run_fault fault)) × Keeps before now

-- From this first state on a run takes these keys and shows its states; behind the key Save the image of its last state
-- is written, which goes further than the session that was begun with.
pub record RunsToEnd {T : Type 0} (reading : T → Reading) (sizes : List ℕ) (begun : SessionValue) (first : EditorValue T)
    (keys_before keys_left shown_before shown_now before now : Option (List ℕ)) (result : Result Status ToolFault)
    : Type 0 where
  pub last : EditorValue T
  pub end : Result End RunFault
  pub run : IsRun keys_before keys_left shown_before shown_now (seen reading first) end (seen reading last)
  pub further : GoesFurther begun last.editing.session
  pub concludes : Concludes sizes end last.editing before now result

-- As above, but these keys are played first, and the keys of the run are kept.
pub record ResumesToEnd {T : Type 0} (reading : T → Reading) (sizes : List ℕ) (begun : SessionValue)
    (played : List ℕ) (first : EditorValue T)
    (keys_before keys_left kept_before kept_now shown_before shown_now before now : Option (List ℕ))
    (result : Result Status ToolFault) : Type 0 where
  pub last : EditorValue T
  pub end : Result End RunFault
  pub resumes : Resumes played keys_before keys_left kept_before kept_now shown_before shown_now (seen reading first) end
      (seen reading last)
  pub further : GoesFurther begun last.editing.session
  pub concludes : Concludes sizes end last.editing before now result

-- Over these sources there is no editor, which is told as a text too long exactly where source 0 is; or source 0 is
-- not, and there is one whose run takes these keys and shows its states; behind the key Save the image of its last
-- state is written.
pub data EditsFile {T : Type 0} (reading : T → Reading) (sources : T)
    (keys_before keys_left shown_before shown_now before now : Option (List ℕ))
    (result : Result Status ToolFault) : Type 0 where
  not_made : (fault : EditorFault) → IsNewFault (reading sources).stated fault
      → (fault ≡ TooLong) ↔ IsTooLong (reading sources).stated → result ≡ Err (editor_fault fault)
      → Keeps keys_before keys_left → Keeps shown_before shown_now → Keeps before now
      → EditsFile reading sources keys_before keys_left shown_before shown_now before now result
  ran : (first : EditorValue T) → first.sources ≡ sources → ¬ IsTooLong (reading sources).stated
      → IsMade (reading sources).stated.sizes first.editing
      → RunsToEnd reading (reading sources).stated.sizes first.editing.session first keys_before keys_left
      shown_before shown_now before now result
      → EditsFile reading sources keys_before keys_left shown_before shown_now before now result

-- As above, but these keys are played first, and the keys of the run are kept.
pub data EditsKept {T : Type 0} (reading : T → Reading) (sources : T) (played : List ℕ)
    (keys_before keys_left kept_before kept_now shown_before shown_now before now : Option (List ℕ))
    (result : Result Status ToolFault) : Type 0 where
  not_made : (fault : EditorFault) → IsNewFault (reading sources).stated fault
      → (fault ≡ TooLong) ↔ IsTooLong (reading sources).stated → result ≡ Err (editor_fault fault)
      → Keeps keys_before keys_left → Keeps kept_before kept_now → Keeps shown_before shown_now → Keeps before now
      → EditsKept reading sources played keys_before keys_left kept_before kept_now shown_before shown_now before now
      result
  ran : (first : EditorValue T) → first.sources ≡ sources → ¬ IsTooLong (reading sources).stated
      → IsMade (reading sources).stated.sizes first.editing
      → ResumesToEnd reading (reading sources).stated.sizes first.editing.session played first keys_before keys_left
      kept_before kept_now shown_before shown_now before now result
      → EditsKept reading sources played keys_before keys_left kept_before kept_now shown_before shown_now before now
      result

-- the bytes of a file that an image may replace: none, or such as an image begins with
abbrev pub MayReplace : List ℕ → Type 0
MayReplace bytes = (bytes ≡ []) ⊎ ((rest : List ℕ) × (bytes ≡ to_be_bytes w64 MAGIC ++ rest))
