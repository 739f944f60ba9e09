use Rattle.std.proofs.Common.{◌≡◌, ℕ, None, get_or}
use Rattle.screen_editor.specs.Editing.{last_of, state_of}
use Rattle.screen_editor.specs.State.{current}
use Rattle.screen_editor.proofs.UndoneTexts.{revision_text}
use Rattle.screen_editor.proofs.known.maker.Given as goal

-- this revision has the current text, and Undo goes back from it as from the last one
abbrev pub invariant-loop-r : goal.invariant-loop-r
invariant-loop-r l = record {
  text : (source : ℕ → ℕ → ℕ) → revision_text source l.workspace.session l.k ≡ current (state_of source l.workspace);
  prior : get_or l.workspace.priors l.k None ≡ get_or l.workspace.priors (last_of l.workspace) None;
}

abbrev pub decreases-loop-r : goal.decreases-loop-r
decreases-loop-r l = l.k
