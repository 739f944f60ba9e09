-- Images that stay open.
use Rattle.std.specs.Prelude.{◌≡◌, ℕ, List, None}
use Rattle.std.specs.Borrow.{Bor}
use Rattle.image_reader.specs.Value.{ImageValue}
use Rattle.image_reader.specs.Reading.{fault_of, image_in}
use Rattle.session_checker.specs.Faithful.{HasTrueRecordsOf}

-- these bytes spell an image whose records are true, as those of one that was accepted are
pub record WasAccepted (bytes : List ℕ) : Type 0 where
  pub read : fault_of bytes ≡ None
  pub true_records : HasTrueRecordsOf (image_in bytes)

-- the image that is open by its bytes
abbrev pub opened_image : Bor (List ℕ) → ImageValue
opened_image bytes = image_in bytes.now
