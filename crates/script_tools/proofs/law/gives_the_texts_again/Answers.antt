use Rattle.script_tools.specs.declared.shown.LogTexts.TheVariants.{Whole}
use Rattle.script_tools.specs.Logged.{log_of}
use Rattle.script_tools.proofs.AcceptedImages.{all_inside, each_inside, history, keeps_rules}
use Rattle.script_tools.proofs.law.gives_the_texts_again.Goals as goal

pub returns : goal.returns
returns c = λ at_most old new bytes w v source checked same made.
    c.has_the_texts.ensures (log_of Whole w) v w source made (c.says_the_commands.ensures.all at_most old new bytes w checked)
    (all_inside w (each_inside w old.stated (keeps_rules at_most old new bytes w checked))) (history w old.stated source checked.faithful same)
