use Rattle.std.proofs.Common.{◌≡◌, ◌++◌, drop}
use Rattle.edit_commands.specs.Building.{placed_changes}
use Rattle.edit_commands.proofs.revising.placed_changes.Given as goal

abbrev pub invariant-loop-j : goal.invariant-loop-j
invariant-loop-j l = l.splices.items ++ placed_changes (drop l.j l.changes) (drop l.j l.places) ≡ placed_changes l.changes l.places
