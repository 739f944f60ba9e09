use Rattle.std.proofs.Common.{ap, ◌∙◌}
use Rattle.std.specs.Option.{option_map}
use Rattle.screen_editor.specs.Editing.{key_code, over}
use Rattle.screen_editor.specs.Watched.{note_at, note_of, watch}
use Rattle.screen_editor.proofs.MadeFrames.{noted_as}
use Rattle.screen_editor.proofs.editor.frame_noted.Goals as goal

pub returns-clause-makes : goal.returns-clause-makes
returns-clause-makes g c =
    noted_as (option_map (λ m. m.now) c.note_of-note.result) (note_at (watch (option_map (λ h. h.now) c.args.hint) c.args.untaken c.args.workspace.now)) (over (g.R.Sources.reading c.args.sources.now) c.args.workspace.now) c.frame_with.result (over (g.R.Sources.reading c.frame_with.new.sources) c.args.workspace.now)
    (c.note_of-note.ensures ∙ ap (note_of (option_map (λ h. h.now) c.args.hint) c.args.untaken) (c.message_code-message.ensures ∙ ap (option_map key_code) c.message.ensures)) c.frame_with.ensures.makes
