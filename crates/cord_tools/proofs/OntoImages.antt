-- An image that is gone on with.
use Rattle.std.proofs.Common.{◌≡◌, ℕ, List, None, Result, Ok, Err, IfOk, IfErr, refl, sym, ap, ◌∙◌}
use Rattle.lazy_file.specs.SourceTexts.{Stated}
use Rattle.lazy_file.specs.Readings.{Reading}
use Rattle.edit_commands.specs.Session.{SessionValue}
use Rattle.image_reader.specs.Value.{ImageValue}
use Rattle.session_checker.specs.declared.fault.CheckFault.{CheckFault}
use Rattle.session_checker.specs.Limits.{ChecksWithin}
use Rattle.saved_session.specs.GoneFurther.{IsTakenUp}
use Rattle.saved_session.specs.TakenUp.{WasChecked}
use Rattle.saved_session.proofs.CheckedImages.{was_checked}
use Rattle.screen_editor.proofs.LaterReadings.{reads_later}
use Rattle.session_checker.specs.Accepted.{BytesAsk}
use Rattle.session_checker.specs.RevisionRules.{source_fault_in}
use Rattle.cord_tools.specs.declared.fault.ToolFault.{ToolFault}
use Rattle.cord_tools.specs.EditingOnto.{OpensOnto, IsUntaken}

module _ {old new : Reading} {image : List ℕ} where
  -- what is checked states what it stated
  pub states_same : (checked : Result ImageValue CheckFault) → ChecksWithin None old new image checked → new.stated ≡ old.stated
  states_same checked check = (reads_later old new (BytesAsk old.stated image) (source_fault_in checked) check.reads).same

  pub may_be_taken : (v : ImageValue) → ChecksWithin None old new image (Ok v) → WasChecked v
  may_be_taken v check = was_checked image v old.stated check.image.0 check.image.1 (check.accepted refl)

  -- the session of an accepted image, or why there is none
  pub begun_answer : (v : ImageValue) (result : Result SessionValue ToolFault) → ChecksWithin None old new image (Ok v) → IfOk result (IsTakenUp v) → IfErr result (IsUntaken v) → OpensOnto old new image result
  begun_answer v (Ok session) check takes untaken = OpensOnto.begun v session check takes refl
  begun_answer v (Err fault) check takes untaken = OpensOnto.not_taken v fault check untaken refl

  pub begun_sizes : (v : ImageValue) (result : Result SessionValue ToolFault) → ChecksWithin None old new image (Ok v) → IfOk result (IsTakenUp v) → IfOk result (λ s. s.held.sources ≡ new.stated.sizes)
  begun_sizes v (Ok session) check takes = takes.takes.sources ∙ check.sources ∙ ap (λ (st : Stated). st.sizes) (sym (states_same (Ok v) check))
  begun_sizes v (Err fault) check takes = tt
