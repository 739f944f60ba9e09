use Rattle.std.proofs.Common.{ℕ, List, Option, Ok, map}
use Rattle.lazy_file.specs.Readings.{Reading}
use Rattle.edit_script.specs.Applied.{lines_of}
use Rattle.edit_script.specs.Commands.{words_of}
use Rattle.edit_script.specs.Scripts.{SaysEach}
use Rattle.edit_script.proofs.Logs.{reads_each}
use Rattle.image_reader.specs.Value.{ImageValue}
use Rattle.session_checker.specs.Faithful.{commands}
use Rattle.session_checker.specs.Limits.{ChecksWithin}
use Rattle.script_tools.specs.declared.shown.LogTexts.TheVariants.{Whole}
use Rattle.script_tools.specs.Logged.{log_of}
use Rattle.script_tools.proofs.AcceptedImages.{each_printable, keeps_rules}
use Rattle.script_tools.proofs.LoggedScripts.{log_says}
use Rattle.script_tools.proofs.law.says_the_commands.Goals as goal

says : (at_most : Option ℕ) (old new : Reading) (bytes : List ℕ) (w : ImageValue) → ChecksWithin at_most old new bytes (Ok w)
    → SaysEach (lines_of (log_of Whole w)) (map (words_of w.pool) (commands w))
says at_most old new bytes w checked =
    log_says w checked.image.0 checked.faithful.true_records (each_printable w old.stated checked.image.0 (keeps_rules at_most old new bytes w checked))

pub returns-clause-each : goal.returns-clause-each
returns-clause-each c = says

pub returns-clause-all : goal.returns-clause-all
returns-clause-all c = λ at_most old new bytes w checked.
    reads_each (lines_of (log_of Whole w)) (map (words_of w.pool) (commands w)) (says at_most old new bytes w checked)
