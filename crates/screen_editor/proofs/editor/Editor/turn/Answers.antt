use Rattle.screen_editor.specs.Editing.{seen}
use Rattle.screen_editor.proofs.TakenKeys.{turned}
use Rattle.screen_editor.proofs.editor.Editor.turn.Goals as goal

pub returns-clause-turn : goal.returns-clause-turn
returns-clause-turn g c =
    turned (g.K.Read.remaining c.args.keys.now) (g.K.Read.remaining c.next_key.new.keys) (g.W.Write.contents c.args.screen.now) (g.W.Write.contents c.show.new.screen) c.in-Some.byte c.press.result
    (seen g.R.Sources.reading c.args.self.now) (seen g.R.Sources.reading c.show.new.self) (seen g.R.Sources.reading c.press.new.self)
    (rw c.in-Some.is at c.in_ok-byte.ensures.key) c.in_ok-show.ensures.shown c.in_ok-show.ensures.unfailed c.show.ensures.kept c.press.ensures.presses
