-- What logging an image writes.
use Rattle.std.specs.Prelude.{◌≡◌, ℕ, nat_lt, if◌then◌else◌, List, [], ◌∷◌, ◌++◌, length, take, Option, Result, Ok, Err, codes}
use Rattle.std.specs.List.{flat_map, range_with_len}
use Rattle.std.specs.Io.KnownBytes.{Appends, Keeps}
use Rattle.byte_output.specs.Prefix.{AppendsPrefix}
use Rattle.lazy_file.specs.Readings.{Reading}
use Rattle.rope_node.specs.Denotes.{rope_len, rope_depth}
use Rattle.command_parts.specs.Commands.{FullEdit}
use Rattle.image_reader.specs.Value.{ImageValue, image_table}
use Rattle.image_reader.specs.Accepted.{command_at, revision_at}
use Rattle.session_checker.specs.declared.fault.CheckFault.{CheckFault}
use Rattle.session_checker.specs.Limits.{ChecksWithin}
use Rattle.edit_script.specs.Words.{Word, Quoted, printed_word, line_of}
use Rattle.edit_script.specs.Commands.{front_of, quoted_texts}
use Rattle.edit_script.specs.Scripts.{Noted, comment_of}
use Rattle.script_tools.specs.declared.shown.TheConstants.{BRIEF_LEN}
use Rattle.script_tools.specs.declared.shown.LogTexts.{LogTexts}
use Rattle.script_tools.specs.declared.shown.LogTexts.TheVariants.{Whole, Brief}
use Rattle.script_tools.specs.declared.fault.LogFault.{LogFault}
use Rattle.script_tools.specs.declared.fault.LogFault.TheVariants.{Check}

-- ---- a log

-- what a log shows of a text
abbrev pub shown : LogTexts → List ℕ → List ℕ
shown Whole text = text
shown Brief text = take BRIEF_LEN text

-- three dots, where that is not all of it
abbrev pub dots : LogTexts → List ℕ → List ℕ
dots Whole text = []
dots Brief text = if nat_lt BRIEF_LEN (length text) then codes "..." else []

-- a word as a log shows it
abbrev pub shown_word : LogTexts → Word → List ℕ
shown_word texts (Quoted text) = printed_word (Quoted (shown texts text)) ++ dots texts text
shown_word texts word = printed_word word

-- a blank and a word, for each of them
abbrev pub shown_on : LogTexts → List Word → List ℕ
shown_on texts [] = []
shown_on texts (w ∷ ws) = (32 ∷ shown_word texts w) ++ shown_on texts ws

-- a command's name and numbers, and the texts that it hands in
abbrev pub shown_command : LogTexts → List ℕ → FullEdit → List ℕ
shown_command texts pool command = line_of (front_of command) ++ shown_on texts (quoted_texts pool command)

-- what is told of revision k
abbrev pub noted_of : ImageValue → ℕ → Noted
noted_of v k = record {
  number = k;
  len = rope_len (image_table v) (revision_at v k).root;
  depth = rope_depth (image_table v) (revision_at v k).root;
  mark = (revision_at v k).mark;
  rows = (revision_at v k).rows;
}

-- the line of revision k: its command, what is told of it, and the line's end
abbrev pub revision_line : LogTexts → ImageValue → ℕ → List ℕ
revision_line texts v k = shown_command texts v.pool (command_at v k) ++ (comment_of (noted_of v k) ++ 10 ∷ [])

-- the lines of all revisions
abbrev pub log_of : LogTexts → ImageValue → List ℕ
log_of texts v = flat_map (revision_line texts v) (range_with_len 0 (length v.revisions))

-- ---- what is written

-- the text was written, or a prefix of it where that failed
abbrev pub WritesText : {E : Type 0} → Option (List ℕ) → Option (List ℕ) → List ℕ → Result (Unit {0}) E → Type 0
WritesText old new text (Ok u) = Appends old new text
WritesText old new text (Err e) = AppendsPrefix old new text

-- the log of an accepted image was written, or a prefix of it; of a refused one nothing, and that is told
abbrev pub WritesLog : LogTexts → Option (List ℕ) → Option (List ℕ) → Result ImageValue CheckFault
    → Result (Unit {0}) LogFault → Type 0
WritesLog texts before after (Ok v) (Err (Check fault)) = ⊥
WritesLog texts before after (Ok v) outcome = WritesText before after (log_of texts v) outcome
WritesLog texts before after (Err fault) outcome = Keeps before after × (outcome ≡ Err (Check fault))

-- what run_log does: it checks the image, as check_at_most does, and writes the log of what is accepted
pub record LogsImage (texts : LogTexts) (at_most : Option ℕ) (old new : Reading) (bytes : List ℕ)
    (before after : Option (List ℕ)) (outcome : Result (Unit {0}) LogFault) : Type 0 where
  pub checked : Result ImageValue CheckFault
  pub check : ChecksWithin at_most old new bytes checked
  pub written : WritesLog texts before after checked outcome
