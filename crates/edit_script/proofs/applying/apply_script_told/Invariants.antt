use Rattle.std.proofs.Common.{◌+◌, ◌≤◌, length, Result}
use Rattle.std.specs.Option.{option_map}
use Rattle.edit_commands.specs.Session.{SessionValue}
use Rattle.edit_script.specs.declared.fault.Stopped.{Stopped}
use Rattle.edit_script.specs.Applied.{TakesLines, lines_of, lines_left}
use Rattle.edit_script.proofs.Scripts.{size_left}
use Rattle.edit_script.proofs.applying.apply_script_told.Given as goal

abbrev pub invariant-loop-left : goal.invariant-loop-left
invariant-loop-left g l = record {
  few : l.number + size_left (option_map (λ rest. rest.now) l.left) ≤ length l.script + 1;
  runs : (r : Result (Unit {0}) Stopped) (new : SessionValue)
      → TakesLines l.session l.number (lines_left (option_map (λ rest. rest.now) l.left)) r new
      → TakesLines l.initial.session 0 (lines_of l.script) r new;
}

abbrev pub decreases-loop-left : goal.decreases-loop-left
decreases-loop-left g l = size_left (option_map (λ rest. rest.now) l.left)
