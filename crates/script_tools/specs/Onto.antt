-- What applying a script to a saved session writes.
use Rattle.std.specs.Prelude.{◌≡◌, ℕ, List, ◌++◌, length, map, take, Option, Result, Ok, Err}
use Rattle.std.specs.Io.KnownBytes.{Appends, Keeps}
use Rattle.byte_output.specs.Prefix.{AppendsPrefix}
use Rattle.lazy_file.specs.Readings.{Reading}
use Rattle.edit_commands.specs.Session.{SessionValue, HoldsHistory, IsSession, texts_of}
use Rattle.edit_script.specs.declared.fault.Stopped.{Stopped}
use Rattle.edit_script.specs.Words.{Word}
use Rattle.edit_script.specs.Commands.{words_of}
use Rattle.edit_script.specs.Applied.{TakesLines, lines_of}
use Rattle.edit_script.specs.Scripts.{AreInside, ReadsScript, words_held}
use Rattle.image_reader.specs.Spelling.{spelling}
use Rattle.image_reader.specs.Value.{ImageValue, IsImage}
use Rattle.session_image.specs.Written.{AreAsMade, IsTrusted, image_of}
use Rattle.session_checker.specs.declared.fault.CheckFault.{CheckFault}
use Rattle.session_checker.specs.Faithful.{commands, texts}
use Rattle.session_checker.specs.Limits.{ChecksWithin}
use Rattle.saved_session.specs.TakeFaults.{IsTakeFault}
use Rattle.saved_session.specs.GoneFurther.{GoesFurther, IsTakenUp}
use Rattle.script_tools.specs.declared.fault.OntoFault.{OntoFault}
use Rattle.script_tools.specs.declared.fault.OntoFault.TheVariants.{Check, TakeUp, Stop, Write}

-- ---- the session

-- a session that the script made behind an image's
pub record IsMadeOnto (v : ImageValue) (script : List ℕ) (made : SessionValue) : Type 0 where
  pub begun : SessionValue
  pub from_image : IsTakenUp v begun
  pub takes : TakesLines begun 0 (lines_of script) (Ok tt) made
  -- the image's revisions are its first ones, and have the texts that they had, whatever bytes the sources hold
  pub further : GoesFurther begun made
  pub earlier : (source : ℕ → ℕ → ℕ) → take (length v.revisions) (texts_of source made) ≡ texts v source
  -- it says what the image says and then what the script says, and its texts are the history of its commands
  pub says : (more : List (List Word)) → ReadsScript (lines_of script) more
      → (words_held made ≡ map (words_of v.pool) (commands v) ++ more) × AreInside made
  pub sources : made.held.sources ≡ v.sources
  pub history : HoldsHistory made

-- the script stops at this line, behind the session of an image
pub record IsStoppedOnto (v : ImageValue) (script : List ℕ) (at : Stopped) : Type 0 where
  pub begun : SessionValue
  pub from_image : IsTakenUp v begun
  pub last : SessionValue
  pub stops : TakesLines begun 0 (lines_of script) (Err at) last
  pub session : IsSession last

-- ---- the two halves of the call

-- a session of an accepted image, or why there is none
abbrev pub Begins : Result ImageValue CheckFault → Result SessionValue OntoFault → Type 0
Begins (Ok v) (Ok begun) = IsTakenUp v begun
Begins (Ok v) (Err (TakeUp fault)) = IsTakeFault v fault
Begins (Ok v) _ = ⊥
Begins (Err fault) outcome = outcome ≡ Err (Check fault)

-- an image is checked, and taken up where it is accepted
pub record BeginsOnto (at_most : Option ℕ) (old new : Reading) (bytes : List ℕ) (outcome : Result SessionValue OntoFault)
    : Type 0 where
  pub checked : Result ImageValue CheckFault
  pub check : ChecksWithin at_most old new bytes checked
  pub begins : Begins checked outcome

-- a session takes a script's lines
pub record TakesScript (begun : SessionValue) (script : List ℕ) (made : SessionValue) : Type 0 where
  pub session : IsSession begun
  pub takes : TakesLines begun 0 (lines_of script) (Ok tt) made
  pub history : HoldsHistory made

-- it takes them, or stops at one
abbrev pub GoesOnBy : SessionValue → List ℕ → Result (Unit {0}) OntoFault → SessionValue → Type 0
GoesOnBy begun script (Ok u) last = TakesScript begun script last
GoesOnBy begun script (Err (Stop at)) last = TakesLines begun 0 (lines_of script) (Err at) last × IsSession last
GoesOnBy begun script _ last = ⊥

-- ---- what is written

-- Of an accepted image that is taken up, the image of the session that the script makes behind it was written, or a
-- prefix of that; and nothing, where there is none.
abbrev pub WritesOnto : Result ImageValue CheckFault → List ℕ → Option (List ℕ) → Option (List ℕ)
    → Result (Unit {0}) OntoFault → Type 0
WritesOnto (Ok v) script before after (Ok u) =
    (made : SessionValue) × IsMadeOnto v script made × IsImage (image_of made) × IsTrusted made
    × AreAsMade (image_of made) × Appends before after (spelling (image_of made))
WritesOnto (Ok v) script before after (Err Write) =
    (made : SessionValue) × IsMadeOnto v script made × AppendsPrefix before after (spelling (image_of made))
WritesOnto (Ok v) script before after (Err (Stop at)) = Keeps before after × IsStoppedOnto v script at
WritesOnto (Ok v) script before after (Err (TakeUp fault)) = Keeps before after × IsTakeFault v fault
WritesOnto (Ok v) script before after (Err (Check fault)) = ⊥
WritesOnto (Err fault) script before after outcome = Keeps before after × (outcome ≡ Err (Check fault))

-- what run_apply_onto does: it checks the image, takes it up, applies the script behind it, and writes
pub record AppliesOnto (at_most : Option ℕ) (old new : Reading) (bytes script : List ℕ)
    (before after : Option (List ℕ)) (outcome : Result (Unit {0}) OntoFault) : Type 0 where
  pub checked : Result ImageValue CheckFault
  pub check : ChecksWithin at_most old new bytes checked
  pub written : WritesOnto checked script before after outcome
