-- Images that were accepted, opened again.
use Rattle.std.proofs.Common.{ℕ, List}
use Rattle.lazy_file.specs.SourceTexts.{Stated}
use Rattle.image_reader.specs.Reading.{image_in}
use Rattle.session_checker.specs.Accepted.{SpellsFaithful}
use Rattle.cord_types.proofs.CheckedImages.{faultless}
use Rattle.cord_c.specs.Opened.{WasAccepted}

-- what is accepted can be opened again
pub opens : (bytes : List ℕ) (st : Stated) → SpellsFaithful bytes st (image_in bytes) → WasAccepted bytes
opens bytes st is = record { read = faultless bytes (image_in bytes) is.image is.spelled; true_records = is.faithful.true_records }
