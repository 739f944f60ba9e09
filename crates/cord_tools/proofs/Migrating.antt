-- What the tool that writes an image anew answers where its check refuses, and where it writes.
use Rattle.std.proofs.Common.{ℕ, Option, List, Err, refl}
use Rattle.lazy_file.specs.SourceTexts.{Stated}
use Rattle.lazy_file.specs.Readings.{Reading}
use Rattle.session_checker.specs.Limits.{AreLooksWithin}
use Rattle.session_checker.proofs.Restated.{accepted_anew, texts_in_two}
use Rattle.image_reader.specs.Value.{ImageValue, in_version_two}
use Rattle.image_reader.specs.Spelling.{spelling}
use Rattle.image_reader.proofs.Versions.{image_in_two}
use Rattle.cord_tools.specs.Answers.{AreRead, EndsUnwritten}
use Rattle.session_checker.specs.Accepted.{SpellsFaithful}
use Rattle.cord_tools.specs.Migrated.{AnswersMigrate, MigratesTo}
use Rattle.cord_tools.specs.declared.fault.ToolFault.{ToolFault}
use Rattle.cord_tools.specs.declared.fault.ToolFault.TheVariants.{Write}

-- it ended before the image was accepted
pub migrates_none : {T : Type 0} (at_most : Option ℕ) (reading : T → Reading) (old new : T) (remaining before after : Option (List ℕ)) (e : ToolFault)
    → EndsUnwritten at_most reading old new remaining before after e → AnswersMigrate at_most reading old new remaining before after (Err e)
migrates_none at_most reading old new remaining before after Write ends = absurd ends
migrates_none at_most reading old new remaining before after other ends = ends

-- the image is accepted
pub migrates_to : (at_most : Option ℕ) (remaining : Option (List ℕ)) (st : Stated) (bytes : List ℕ) (v : ImageValue) (P : List ℕ → Type 0) → AreRead remaining bytes → SpellsFaithful bytes st v → AreLooksWithin at_most v → P (spelling (in_version_two v)) → MigratesTo at_most remaining st v P
migrates_to at_most remaining st bytes v P read accepted within written =
    let anew = accepted_anew bytes v st accepted.image accepted.spelled accepted.accepted in
    record {
      bytes = bytes;
      read = read;
      accepted = accepted;
      within = within;
      migrated = record {
        accepted = anew.0;
        image = image_in_two v accepted.image;
        spelled = refl;
        sources = accepted.sources;
        faithful = anew.1;
      };
      same_texts = texts_in_two v;
      written = written;
    }
