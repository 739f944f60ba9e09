use Rattle.std.proofs.Common.{◌≡◌, true, false, arith, refl}
use Rattle.std.specs.List.{list_all}
use Rattle.std.proofs.lemmas.Grind.{common_steps}
use Rattle.cord_types.specs.HeldTexts.{is_short}
use Rattle.cord_types.proofs.HeldLemmas.{short_sizes, short_test}
use Rattle.cord_types.proofs.held_sources.HeldSources.new.Goals as goal

pub returns-then-not-are_short-clause-ok : goal.returns-then-not-are_short-clause-ok
returns-then-not-are_short-clause-ok c =
    let test : list_all is_short c.args.sources.now ≡ false = grind (arith, common_steps) in
    (λ is. absurd cc, λ sizes. let other = short_test c.args.sources.now sizes.each in absurd cc)

pub invariant_of-result : goal.invariant_of-result
invariant_of-result c =
    let test : list_all is_short c.args.sources.now ≡ true = grind (arith, common_steps) in
    record { count = grind (arith, common_steps); each = short_sizes c.args.sources.now test }

pub returns-clause-ok : goal.returns-clause-ok
returns-clause-ok c =
    let test : list_all is_short c.args.sources.now ≡ true = grind (arith, common_steps) in
    (λ _. record { count = grind (arith, common_steps); each = short_sizes c.args.sources.now test }, λ _. refl)
