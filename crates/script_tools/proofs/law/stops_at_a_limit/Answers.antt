use Rattle.std.proofs.Common.{Err, map, refl}
use Rattle.edit_commands.specs.Session.{new_session}
use Rattle.edit_script.specs.Applied.{lines_of}
use Rattle.edit_script.specs.Commands.{words_of}
use Rattle.session_checker.specs.Faithful.{commands}
use Rattle.script_tools.specs.declared.shown.LogTexts.TheVariants.{Whole}
use Rattle.script_tools.specs.Logged.{log_of}
use Rattle.script_tools.proofs.StoppedLogs.{first_line, log_stops}
use Rattle.script_tools.proofs.law.stops_at_a_limit.Goals as goal

pub returns : goal.returns
returns c = λ at_most old new bytes w at checked stopped.
    log_stops w (λ v after command fault. c.refuses_at_a_limit.ensures at_most old new bytes w v after command fault checked)
    (new_session w.sources) 0 (lines_of (log_of Whole w)) (map (words_of w.pool) (commands w)) at (Err at) stopped.last refl stopped.session
    (first_line w) (c.says_the_commands.ensures.each at_most old new bytes w checked) stopped.stops
