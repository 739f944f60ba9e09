use Rattle.std.proofs.Common.{Err, map, refl}
use Rattle.edit_commands.specs.Session.{new_session}
use Rattle.edit_script.specs.Applied.{lines_of}
use Rattle.edit_script.specs.Commands.{words_of}
use Rattle.session_checker.specs.Faithful.{commands}
use Rattle.script_tools.specs.declared.shown.LogTexts.TheVariants.{Whole}
use Rattle.script_tools.specs.Logged.{log_of}
use Rattle.script_tools.proofs.StoppedScripts.{never_unread}
use Rattle.script_tools.proofs.law.reads_each_line.Goals as goal

pub returns : goal.returns
returns c = λ at_most old new bytes w at checked stopped.
    never_unread (new_session w.sources) 0 (lines_of (log_of Whole w)) (map (words_of w.pool) (commands w)) at stopped.last (Err at) refl
    (c.says_the_commands.ensures.all at_most old new bytes w checked) stopped.stops
