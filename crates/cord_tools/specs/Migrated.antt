-- What the tool that writes an image anew answers.
use Rattle.std.specs.Prelude.{◌≡◌, ℕ, List, Option, Result, Ok, Err}
use Rattle.std.specs.Io.KnownBytes.{Appends}
use Rattle.byte_output.specs.Prefix.{AppendsPrefix}
use Rattle.lazy_file.specs.SourceTexts.{Stated}
use Rattle.lazy_file.specs.Readings.{Reading}
use Rattle.image_reader.specs.Value.{ImageValue, in_version_two}
use Rattle.image_reader.specs.Spelling.{spelling}
use Rattle.session_checker.specs.Faithful.{texts}
use Rattle.session_checker.specs.Limits.{AreLooksWithin}
use Rattle.cord_tools.specs.Answers.{AreRead, CheckAsks, EndsUnwritten}
use Rattle.session_checker.specs.Accepted.{SpellsFaithful}
use Rattle.cord_tools.specs.Unread.{ToolReads}
use Rattle.cord_tools.specs.declared.fault.ToolFault.{ToolFault}
use Rattle.cord_tools.specs.declared.fault.ToolFault.TheVariants.{Write}

-- The bytes read spell an image that is accepted with these sources, within the limit of looks; its spelling in version
-- 2 is accepted with the same sources, and has the same texts; and P holds of that spelling.
pub record MigratesTo (at_most : Option ℕ) (remaining : Option (List ℕ)) (st : Stated) (v : ImageValue)
    (P : List ℕ → Type 0) : Type 0 where
  pub bytes : List ℕ
  pub read : AreRead remaining bytes
  pub accepted : SpellsFaithful bytes st v
  pub within : AreLooksWithin at_most v
  pub migrated : SpellsFaithful (spelling (in_version_two v)) st (in_version_two v)
  pub same_texts : (source : ℕ → ℕ → ℕ) → texts (in_version_two v) source ≡ texts v source
  pub written : P (spelling (in_version_two v))

-- That spelling was written; where the writer failed, a prefix of it; where the image is refused, or the tool was
-- stopped before, nothing.
abbrev pub AnswersMigrate : {T : Type 0} → Option ℕ → (T → Reading) → T → T → Option (List ℕ) → Option (List ℕ)
    → Option (List ℕ) → Result (Unit {0}) ToolFault → Type 0
AnswersMigrate at_most reading old new remaining before after (Ok u) =
    (v : ImageValue) × MigratesTo at_most remaining (reading old).stated v (Appends before after)
AnswersMigrate at_most reading old new remaining before after (Err Write) =
    (v : ImageValue) × MigratesTo at_most remaining (reading old).stated v (AppendsPrefix before after)
AnswersMigrate at_most reading old new remaining before after (Err other) =
    EndsUnwritten at_most reading old new remaining before after other

-- what run_migrate does: the image that it writes, and what it reads of the sources
pub record MigratesImage {T : Type 0} (at_most : Option ℕ) (reading : T → Reading) (old new : T)
    (remaining before after : Option (List ℕ)) (outcome : Result (Unit {0}) ToolFault) : Type 0 where
  pub reads : ToolReads (reading old) (reading new) (CheckAsks remaining (reading old).stated) outcome
  pub answer : AnswersMigrate at_most reading old new remaining before after outcome
