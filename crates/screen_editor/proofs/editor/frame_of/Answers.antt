use Rattle.std.proofs.Common.{ap, ◌∙◌}
use Rattle.std.specs.Option.{option_map}
use Rattle.screen_editor.specs.Editing.{key_code, over}
use Rattle.screen_editor.proofs.MadeFrames.{own_frame}
use Rattle.screen_editor.proofs.editor.frame_of.Goals as goal

pub returns-clause-makes : goal.returns-clause-makes
returns-clause-makes g c =
    own_frame (option_map (λ m. m.now) c.message_code-message.result) (over (g.R.Sources.reading c.args.sources.now) c.args.workspace.now) c.frame_with.result (over (g.R.Sources.reading c.frame_with.new.sources) c.args.workspace.now)
    (c.message_code-message.ensures ∙ ap (option_map key_code) c.message.ensures) c.frame_with.ensures.makes
