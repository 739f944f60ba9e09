use Rattle.std.proofs.Common.{ℕ, ◌<◌, ◌≤◌}
use Rattle.edit_commands.specs.Session.{length_at}
use Rattle.screen_editor.specs.declared.workspace.TheConstants.{LONGEST_TEXT}
use Rattle.screen_editor.proofs.opening.has_long_text.Given as goal

abbrev pub invariant-loop-k : goal.invariant-loop-k
invariant-loop-k l = record {
  short : (j : ℕ) → j < l.k → length_at l.session j ≤ LONGEST_TEXT;
}
