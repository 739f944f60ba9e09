use Rattle.std.proofs.Common.{eqb, rules, tests}
use Rattle.std.proofs.lemmas.Iterator.{YieldsList-from_slice}
use Rattle.std.proofs.lemmas.Iterator.Search.{position_from_yields_List}
use Rattle.edit_script.proofs.Scripts.{line_found, line_alone}
use Rattle.edit_script.proofs.applying.split_line.Goals as goal

pub returns-in-Some-clause-parts : goal.returns-in-Some-clause-parts
returns-in-Some-clause-parts c =
    let xs = c.args.script.now in
    let by_call = position_from_yields_List (λ b. eqb b 10) _ _ c.position.result c.position.ensures.ran (YieldsList-from_slice xs cc) (λ x b q k. search (rules, tests)) in
    line_found xs c.position.result c.in-Some.end by_call c.in-Some.is

pub returns-in-None-clause-parts : goal.returns-in-None-clause-parts
returns-in-None-clause-parts c =
    let xs = c.args.script.now in
    let by_call = position_from_yields_List (λ b. eqb b 10) _ _ c.position.result c.position.ensures.ran (YieldsList-from_slice xs cc) (λ x b q k. search (rules, tests)) in
    line_alone xs c.position.result by_call c.in-None.is
