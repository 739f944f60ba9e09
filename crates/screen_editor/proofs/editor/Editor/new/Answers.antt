use Rattle.screen_editor.proofs.FirstTexts.{begun}
use Rattle.screen_editor.proofs.editor.Editor.new.Goals as goal

pub returns-clause-made : goal.returns-clause-made
returns-clause-made g c = begun (g.R.Sources.reading c.args.sources).stated.sizes c.in_ok-session.session c.in_ok-workspace.workspace c.in_ok-session.ensures.first c.in_ok-workspace.ensures

pub invariant_of-result : goal.invariant_of-result
invariant_of-result g c = (rw c.in_ok-workspace.ensures c.in_ok-session.ensures.first.sources, c.none-known.ensures (g.R.Sources.reading c.args.sources).stated)
