use Rattle.std.proofs.Common.{◌∙◌}
use Rattle.screen_editor.proofs.editor.Editor.over.Goals as goal

pub invariant_of-result : goal.invariant_of-result
invariant_of-result g c = (rw c.in_ok-workspace.ensures (c.in_ok-session.ensures.sources ∙ c.requires), c.none-known.ensures (g.R.Sources.reading c.args.sources).stated)
