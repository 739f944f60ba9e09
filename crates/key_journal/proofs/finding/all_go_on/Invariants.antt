use Rattle.std.proofs.Common.{◌≡◌, take, true}
use Rattle.std.specs.List.{list_all}
use Rattle.key_journal.specs.Keys.{goes_on}
use Rattle.key_journal.proofs.finding.all_go_on.Given as goal

abbrev pub invariant-loop-key : goal.invariant-loop-key
invariant-loop-key l = list_all goes_on (take l.key-index l.keys) ≡ true
