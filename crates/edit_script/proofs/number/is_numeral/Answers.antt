use Rattle.std.proofs.Common.{◌∙◌, rules, tests}
use Rattle.std.specs.Char.{is_ascii_digit}
use Rattle.std.proofs.lemmas.Iterator.{YieldsList-from_slice}
use Rattle.std.proofs.lemmas.Iterator.Search.{all_from_yields_List}
use Rattle.edit_script.proofs.Numbers.{all_digits_is, numeral_some}
use Rattle.edit_script.proofs.number.is_numeral.Goals as goal

pub returns-then-not-is_empty : goal.returns-then-not-is_empty
returns-then-not-is_empty c =
    let xs = c.args.text.now in
    let by_call = all_from_yields_List is_ascii_digit _ _ c.all.result c.all.ensures.ran (YieldsList-from_slice xs cc) (λ x b q k. search (rules, tests)) in
    numeral_some xs c.all.result c.if-not-is_empty.ensures (by_call ∙ all_digits_is xs)
