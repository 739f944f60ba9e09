use Rattle.std.proofs.Common.{[], ◌∷◌}
use Rattle.key_journal.specs.Left.{keys_left}
use Rattle.screen_editor.specs.Editing.{seen}
use Rattle.screen_editor.proofs.Playing.{shown_so_far}
use Rattle.screen_editor.proofs.TakenKeys.{turned}
use Rattle.screen_editor.proofs.editor.Editor.turn_kept.Goals as goal

pub returns-clause-turn : goal.returns-clause-turn
returns-clause-turn g c =
    turned (keys_left g.K.Read.remaining c.args.keys.now) (keys_left g.K.Read.remaining c.next_key.new.self) (g.W.Write.contents c.args.screen.now) (g.W.Write.contents c.show.new.screen) c.in-Ok-Some.byte c.press.result
    (seen g.R.Sources.reading c.args.self.now) (seen g.R.Sources.reading c.show.new.self) (seen g.R.Sources.reading c.press.new.self)
    (rw c.in-Ok-Some.field-0-is at c.in-Ok-Some.ensures.next) c.in_ok-show.ensures.shown c.in_ok-show.ensures.unfailed c.show.ensures.kept c.press.ensures.presses

pub returns-in-Err-Write-clause-turn : goal.returns-in-Err-Write-clause-turn
returns-in-Err-Write-clause-turn g c = (
  record { keys = c.in-Err-Write.ensures.none_given; same = c.show.ensures.kept },
  (
    shown_so_far (g.R.Sources.reading c.args.self.now.sources).stated (g.W.Write.contents c.args.screen.now) (g.W.Write.contents c.show.new.screen) (c.args.self.now.editing ∷ []) c.in_ok-show.ensures.shown,
    c.in_ok-show.ensures.unfailed,
  ),
)
