use Rattle.script_tools.proofs.AppliedLogs.{log_applies}
use Rattle.script_tools.proofs.law.applies_up_to_limits.Goals as goal

pub returns : goal.returns
returns c = λ at_most old new bytes w before after fault checked applies.
    log_applies w checked.image.0 before after fault (λ at. c.stops_at_a_limit.ensures at_most old new bytes w at checked) applies
