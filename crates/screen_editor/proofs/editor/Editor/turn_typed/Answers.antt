use Rattle.std.specs.Option.{option_map}
use Rattle.key_journal.specs.Left.{keys_kept, keys_left}
use Rattle.screen_editor.specs.Editing.{seen}
use Rattle.screen_editor.specs.Watched.{watch}
use Rattle.screen_editor.proofs.TypedTurns.{kept_later, turn_later}
use Rattle.screen_editor.proofs.editor.Editor.turn_typed.Goals as goal

pub returns-then-is_ready-clause-turn : goal.returns-then-is_ready-clause-turn
returns-then-is_ready-clause-turn g c =
    turn_later (keys_left g.K.Read.remaining c.args.keys.now) (keys_left g.K.Read.remaining c.is_ready.new.self) (keys_left g.K.Read.remaining c.turn_unshown.new.keys) (g.W.Write.contents c.args.screen.now) (g.W.Write.contents c.turn_unshown.new.screen)
    (watch (option_map (λ h. h.now) c.args.hint) c.args.untaken.now c.args.self.now.editing) (seen g.R.Sources.reading c.args.self.now) c.turn_unshown.result (seen g.R.Sources.reading c.turn_unshown.new.self) c.turn_unshown.new.untaken c.is_ready.ensures.left c.turn_unshown.ensures.turn

pub returns-then-is_ready-clause-kept : goal.returns-then-is_ready-clause-kept
returns-then-is_ready-clause-kept g c =
    kept_later (keys_left g.K.Read.remaining c.args.keys.now) (keys_left g.K.Read.remaining c.is_ready.new.self) (keys_left g.K.Read.remaining c.turn_unshown.new.keys) (keys_kept g.J.Write.contents c.args.keys.now) (keys_kept g.J.Write.contents c.is_ready.new.self) (keys_kept g.J.Write.contents c.turn_unshown.new.keys)
    c.is_ready.ensures.left c.is_ready.ensures.journal c.turn_unshown.ensures.kept

pub returns-else-is_ready-clause-turn : goal.returns-else-is_ready-clause-turn
returns-else-is_ready-clause-turn g c =
    turn_later (keys_left g.K.Read.remaining c.args.keys.now) (keys_left g.K.Read.remaining c.is_ready.new.self) (keys_left g.K.Read.remaining c.turn_shown.new.keys) (g.W.Write.contents c.args.screen.now) (g.W.Write.contents c.turn_shown.new.screen)
    (watch (option_map (λ h. h.now) c.args.hint) c.args.untaken.now c.args.self.now.editing) (seen g.R.Sources.reading c.args.self.now) c.turn_shown.result (seen g.R.Sources.reading c.turn_shown.new.self) c.turn_shown.new.untaken c.is_ready.ensures.left c.turn_shown.ensures.turn

pub returns-else-is_ready-clause-kept : goal.returns-else-is_ready-clause-kept
returns-else-is_ready-clause-kept g c =
    kept_later (keys_left g.K.Read.remaining c.args.keys.now) (keys_left g.K.Read.remaining c.is_ready.new.self) (keys_left g.K.Read.remaining c.turn_shown.new.keys) (keys_kept g.J.Write.contents c.args.keys.now) (keys_kept g.J.Write.contents c.is_ready.new.self) (keys_kept g.J.Write.contents c.turn_shown.new.keys)
    c.is_ready.ensures.left c.is_ready.ensures.journal c.turn_shown.ensures.kept
