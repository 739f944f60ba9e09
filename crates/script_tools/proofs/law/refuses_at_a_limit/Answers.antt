use Rattle.script_tools.proofs.AcceptedImages.{each_inside, keeps_rules}
use Rattle.script_tools.proofs.NextCommands.{next_meets}
use Rattle.script_tools.proofs.law.refuses_at_a_limit.Goals as goal

pub returns : goal.returns
returns c = λ at_most old new bytes w v after command fault checked next applies.
    next_meets w v after command fault checked.image.0 checked.faithful.true_records (each_inside w old.stated (keeps_rules at_most old new bytes w checked)) next applies
