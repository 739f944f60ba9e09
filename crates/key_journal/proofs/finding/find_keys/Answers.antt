use Rattle.std.proofs.Common.{◌≡◌, refl, sym, false}
use Rattle.std.specs.List.{list_all}
use Rattle.key_journal.specs.Keys.{goes_on}
use Rattle.key_journal.proofs.Cuts.{other_keys, part_of}
use Rattle.key_journal.proofs.finding.find_keys.Goals as goal

pub returns-else-all_go_on-clause-keys : goal.returns-else-all_go_on-clause-keys
returns-else-all_go_on-clause-keys c =
    let ends : list_all goes_on c.in-Some.keys.now ≡ false = sym c.if-all_go_on.ensures in
    (λ e. absurd cc, λ j. absurd (other_keys c.args.header.now c.args.bytes.now c.in-Some.keys.now c.in-Some.ensures ends j))

pub returns-in-Some-behind-clause-torn : goal.returns-in-Some-behind-clause-torn
returns-in-Some-behind-clause-torn c =
    (λ e. part_of c.args.header.now c.args.bytes.now c.in-Some-behind.field-0.now c.in-Some-behind.ensures c.in_default.ensures, λ t. refl)
