use Rattle.std.proofs.Common.{◌≡◌, ap, refl, ◌∙◌, false, [], ◌∷◌}
use Rattle.std.specs.Option.{option_map}
use Rattle.key_journal.specs.Left.{keys_left}
use Rattle.screen_editor.specs.declared.key.Key.{Key}
use Rattle.screen_editor.specs.Editing.{seen}
use Rattle.screen_editor.specs.Watched.{untaken_by, watch}
use Rattle.screen_editor.proofs.TypedTurns.{not_watched, typed, typed_none, watched_none}
use Rattle.screen_editor.proofs.editor.Editor.turn_unshown.Goals as goal

pub returns-clause-turn : goal.returns-clause-turn
returns-clause-turn g c =
    let old = seen g.R.Sources.reading c.args.self.now in
    let screen = g.W.Write.contents c.args.screen.now in
    typed (keys_left g.K.Read.remaining c.args.keys.now) (keys_left g.K.Read.remaining c.next_key.new.self) screen screen c.in-Ok-Some.byte c.untaken_by.result c.press.result false
    (watch (option_map (λ h. h.now) c.args.hint) c.args.untaken.now c.args.self.now.editing) old old (seen g.R.Sources.reading c.press.new.self)
    (rw c.in-Ok-Some.field-0-is at c.in-Ok-Some.ensures.next) (watched_none old.sources.stated screen) refl refl c.press.ensures.presses
    (c.untaken_by.ensures ∙ ap (λ (k : Key). untaken_by k c.args.untaken.now) c.of.ensures)
