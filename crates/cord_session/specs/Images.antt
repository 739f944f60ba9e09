-- Images of sessions, written and taken up.
use Rattle.std.specs.Prelude.{◌≡◌, ◌≢◌, ◌⊎◌, ℕ, ◌-◌, ◌==◌, not, min, List, [], length, take, drop, Option, None, Some}
use Rattle.lazy_file.specs.SourceTexts.{Stated}
use Rattle.edit_commands.specs.Session.{SessionValue, IsSession}
use Rattle.image_reader.specs.Spelling.{spelling}
use Rattle.image_reader.specs.Reading.{image_in}
use Rattle.session_image.specs.Written.{AreAsMade, IsTrusted, image_of}
use Rattle.saved_session.specs.TakenUp.{TakesUp}
use Rattle.saved_session.specs.TakeFaults.{IsTakeFault}
use Rattle.saved_session.specs.declared.fault.TakeFault.{TakeFault}
use Rattle.saved_session.specs.declared.fault.TakeFault.TheVariants.{OverSource, TooManyRows, Memory}
use Rattle.cord_session.specs.declared.kept.Kept.{Kept}
use Rattle.cord_types.specs.declared.verdict.CordVerdict.{CordVerdict}
use Rattle.cord_store.specs.declared.codes.TheConstants.{CLOSED, DONE, MEMORY}
use Rattle.cord_session.specs.declared.codes.TheConstants.{MANY_ROWS, OVER_SOURCE, REFUSED}
use Rattle.cord_types.specs.Answers.{JudgesImage}
use Rattle.cord_session.specs.Sessions.{session_of}

-- an image of the session is held then, whose length is told; or memory was refused
pub record MakesImage (old new : Kept) (outcome before after : ℕ) : Type 0 where
  pub same : new.session ≡ old.session
  pub saved : outcome ≡ DONE → (new.image.items ≡ spelling (image_of old.session)) × (after ≡ length new.image.items)
  pub trusted : outcome ≡ DONE → IsTrusted old.session × AreAsMade (image_of old.session)
  pub refused : outcome ≢ DONE → (outcome ≡ MEMORY) × (new.image.items ≡ old.image.items) × (after ≡ before)

pub record SavesHandle (old new : Option Kept) (outcome before after : ℕ) : Type 0 where
  pub closed : old ≡ None → (outcome ≡ CLOSED) × (new ≡ None) × (after ≡ before)
  pub saves : (k : Kept) → old ≡ Some k → (w : Kept) × (new ≡ Some w) × MakesImage k w outcome before after

-- bytes of an image from a place on
pub record CopiesImage (image : List ℕ) (from : ℕ) (old new : List ℕ) (count outcome : ℕ) : Type 0 where
  pub done : outcome ≡ DONE
  pub count_is : count ≡ min (length image - from) (length old)
  pub bytes : take count new ≡ take count (drop from image)
  pub rest : drop count new ≡ drop count old

-- no image is held then, and the session stays
pub record ForgetsImage (old new : Option Kept) (outcome : ℕ) : Type 0 where
  pub closed : old ≡ None → (outcome ≡ CLOSED) × (new ≡ None)
  pub same : session_of new ≡ session_of old
  pub forgotten : (w : Kept) → new ≡ Some w → (outcome ≡ DONE) × (w.image.items ≡ [])

-- why an accepted image is not taken up
abbrev pub take_number : TakeFault → ℕ
take_number (OverSource k) = OVER_SOURCE
take_number TooManyRows = MANY_ROWS
take_number Memory = MEMORY

-- what a call that hands in an image answers: the check's verdict; and a session that says what the image says, or why
-- there is none, so that the handle stays
pub record ResumesImage (bytes : List ℕ) (st : Stated) (old new : Option Kept) (x : CordVerdict) (outcome : ℕ)
    : Type 0 where
  pub judged : JudgesImage bytes st (not (outcome == REFUSED)) x
  pub taken : outcome ≡ DONE
      → (s : SessionValue) × (session_of new ≡ Some s) × TakesUp (image_in bytes) s × IsSession s
  pub kept : outcome ≢ DONE → new ≡ old
  pub fault : outcome ≢ DONE → outcome ≢ REFUSED
      → (outcome ≡ MEMORY) ⊎ ((f : TakeFault) × (outcome ≡ take_number f) × IsTakeFault (image_in bytes) f)
