-- What editing over a saved session shows, and what it writes as the image of the session that goes on from it.
use Rattle.std.specs.Prelude.{◌≡◌, ◌↔◌, ℕ, List, Option, None, Result, Ok, Err}
use Rattle.std.specs.Io.KnownBytes.{Keeps}
use Rattle.lazy_file.specs.Readings.{Reading}
use Rattle.edit_commands.specs.Session.{SessionValue}
use Rattle.image_reader.specs.Value.{ImageValue}
use Rattle.session_checker.specs.declared.fault.CheckFault.{CheckFault}
use Rattle.session_checker.specs.Limits.{ChecksWithin}
use Rattle.saved_session.specs.declared.fault.TakeFault.{TakeFault}
use Rattle.saved_session.specs.GoneFurther.{IsTakenUp}
use Rattle.saved_session.specs.TakeFaults.{IsTakeFault}
use Rattle.screen_editor.specs.declared.fault.EditorFault.{EditorFault}
use Rattle.screen_editor.specs.declared.fault.EditorFault.TheVariants.{TooLong}
use Rattle.screen_editor.specs.Editing.{EditorValue}
use Rattle.screen_editor.specs.Opening.{IsOpenFault, IsTooLongToOpen, OpensSession}
use Rattle.cord_tools.specs.declared.fault.ToolFault.{ToolFault}
use Rattle.cord_tools.specs.declared.status.Status.{Status}
use Rattle.cord_tools.specs.Editing.{ResumesToEnd, RunsToEnd}
use Rattle.cord_tools.specs.Faults.{check_fault, editor_fault, take_fault}

-- why an accepted image is not taken up, as it is told
pub record IsUntaken (v : ImageValue) (told : ToolFault) : Type 0 where
  pub fault : TakeFault
  pub is_fault : IsTakeFault v fault
  pub told_as : told ≡ take_fault fault

-- An image is checked with these sources, by any number of looks, and taken up; or it is refused, or is not taken up.
pub data OpensOnto (old new : Reading) (image : List ℕ) (result : Result SessionValue ToolFault) : Type 0 where
  refused : (fault : CheckFault) → ChecksWithin None old new image (Err fault) → result ≡ Err (check_fault fault)
      → OpensOnto old new image result
  not_taken : (v : ImageValue) (fault : ToolFault) → ChecksWithin None old new image (Ok v) → IsUntaken v fault
      → result ≡ Err fault → OpensOnto old new image result
  begun : (v : ImageValue) (session : SessionValue) → ChecksWithin None old new image (Ok v) → IsTakenUp v session
      → result ≡ Ok session → OpensOnto old new image result

-- A session is begun with an image, and an editor is opened over it, from whose first state all runs to its end; or there
-- is none, for a reason that is told, and all is untouched. A text is told as too long exactly where the session has one.
pub data EditsOnto {T : Type 0} (reading : T → Reading) (sources : T) (image : List ℕ) (Untouched : Type 0)
    (Runs : SessionValue → EditorValue T → Type 0) (result : Result Status ToolFault) : Type 0 where
  not_begun : (now : Reading) (fault : ToolFault) → OpensOnto (reading sources) now image (Err fault)
      → result ≡ Err fault → Untouched → EditsOnto reading sources image Untouched Runs result
  not_opened : (now : Reading) (begun : SessionValue) (fault : EditorFault)
      → OpensOnto (reading sources) now image (Ok begun) → IsOpenFault begun fault
      → (fault ≡ TooLong) ↔ IsTooLongToOpen begun → result ≡ Err (editor_fault fault) → Untouched
      → EditsOnto reading sources image Untouched Runs result
  ran : (begun : SessionValue) (first : EditorValue T)
      → OpensOnto (reading sources) (reading first.sources) image (Ok begun) → ¬ IsTooLongToOpen begun
      → OpensSession begun first.editing → Runs begun first → EditsOnto reading sources image Untouched Runs result

-- the editor over an image, to the end of its run; where it is not opened no key is read, and nothing is shown or written
abbrev pub EditsFileOnto : {T : Type 0} → (T → Reading) → T → List ℕ → Option (List ℕ) → Option (List ℕ)
    → Option (List ℕ) → Option (List ℕ) → Option (List ℕ) → Option (List ℕ) → Result Status ToolFault → Type 0
EditsFileOnto reading sources image keys_before keys_left shown_before shown_now before now result =
    EditsOnto reading sources image (Keeps keys_before keys_left × Keeps shown_before shown_now × Keeps before now)
    (λ begun first. RunsToEnd reading (reading sources).stated.sizes begun first keys_before keys_left
    shown_before shown_now before now result) result

-- the same, with keys that were kept, which are played first, and with each further key kept before it is taken
abbrev pub EditsKeptOnto : {T : Type 0} → (T → Reading) → T → List ℕ → List ℕ → Option (List ℕ) → Option (List ℕ)
    → Option (List ℕ) → Option (List ℕ) → Option (List ℕ) → Option (List ℕ) → Option (List ℕ) → Option (List ℕ)
    → Result Status ToolFault → Type 0
EditsKeptOnto reading sources image played keys_before keys_left kept_before kept_now shown_before shown_now before now
    result =
    EditsOnto reading sources image (Keeps keys_before keys_left × Keeps kept_before kept_now
    × Keeps shown_before shown_now × Keeps before now)
    (λ begun first. ResumesToEnd reading (reading sources).stated.sizes begun played first keys_before keys_left
    kept_before kept_now shown_before shown_now before now result) result
