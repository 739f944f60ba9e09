use Rattle.std.proofs.Common.{◌≡◌, ◌-◌, map, drop}
use Rattle.command_parts.specs.Commands.{are_apart}
use Rattle.edit_commands.specs.Refusals.{unplaced}
use Rattle.edit_commands.proofs.refusing.are_apart.Given as goal

abbrev pub invariant-loop-j : goal.invariant-loop-j
invariant-loop-j l = are_apart (map unplaced l.changes) ≡ are_apart (map unplaced (drop (l.j - 1) l.changes))
