use Rattle.std.proofs.Common.{◌≡◌, ◌+◌, length}
use Rattle.std.specs.List.{sum_by}
use Rattle.edit_commands.specs.declared.command.Change.{Change}
use Rattle.cord_session.proofs.commands.takes_all.Given as goal

abbrev pub invariant-all : goal.invariant-all
invariant-all l = sum_by (λ (c : Change). c.n) l.rest + l.total ≡ sum_by (λ (c : Change). c.n) l.changes + l.left

abbrev pub decreases-all : goal.decreases-all
decreases-all l = length l.rest
