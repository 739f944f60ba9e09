use Rattle.std.proofs.Common.{◌≡◌, ap, ◌∙◌, true, [], ◌∷◌}
use Rattle.std.proofs.lemmas.Result.{err_from_is_err_and}
use Rattle.std.specs.Option.{option_map}
use Rattle.key_journal.specs.Left.{keys_left}
use Rattle.screen_editor.specs.declared.key.Key.{Key}
use Rattle.screen_editor.specs.Editing.{seen}
use Rattle.screen_editor.specs.Watched.{untaken_by, watch}
use Rattle.screen_editor.proofs.TypedTurns.{not_watched, typed, typed_none, watched_so_far}
use Rattle.screen_editor.proofs.editor.Editor.turn_shown.Goals as goal

pub returns-clause-turn : goal.returns-clause-turn
returns-clause-turn g c =
    typed (keys_left g.K.Read.remaining c.args.keys.now) (keys_left g.K.Read.remaining c.next_key.new.self) (g.W.Write.contents c.args.screen.now) (g.W.Write.contents c.show_noted.new.screen) c.in-Ok-Some.byte c.untaken_by.result c.press.result true
    (watch (option_map (λ h. h.now) c.args.hint) c.args.untaken.now c.args.self.now.editing)
    (seen g.R.Sources.reading c.args.self.now) (seen g.R.Sources.reading c.show_noted.new.self) (seen g.R.Sources.reading c.press.new.self)
    (rw c.in-Ok-Some.field-0-is at c.in-Ok-Some.ensures.next) c.in_ok-show_noted.ensures.shown c.in_ok-show_noted.ensures.unfailed c.show_noted.ensures.kept c.press.ensures.presses
    (c.untaken_by.ensures ∙ ap (λ (k : Key). untaken_by k c.args.untaken.now) c.of.ensures)

pub returns-in-Err-Write-clause-turn : goal.returns-in-Err-Write-clause-turn
returns-in-Err-Write-clause-turn g c = (
  record { keys = c.in-Err-Write.ensures.none_given; same = c.show_noted.ensures.kept },
  (
    true,
    watched_so_far (g.R.Sources.reading c.args.self.now.sources).stated (g.W.Write.contents c.args.screen.now) (g.W.Write.contents c.show_noted.new.screen) (watch (option_map (λ h. h.now) c.args.hint) c.args.untaken.now c.args.self.now.editing ∷ []) c.in_ok-show_noted.ensures.shown,
    c.in_ok-show_noted.ensures.unfailed,
  ),
)
