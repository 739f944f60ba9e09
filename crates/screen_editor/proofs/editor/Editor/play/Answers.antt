use Rattle.std.proofs.Common.{take, sym, subst, List, ℕ, get_or}
use Rattle.std.proofs.lemmas.List.{take_all, take_more}
use Rattle.screen_editor.specs.Editing.{seen}
use Rattle.screen_editor.proofs.LaterReadings.{later_itself, later_then}
use Rattle.screen_editor.proofs.Playing.{Played, all_played, played_more, played_none}
use Rattle.screen_editor.proofs.editor.Editor.play.Goals as goal

pub loop-key-init : goal.loop-key-init
loop-key-init g c = record {
  played = played_none (seen g.R.Sources.reading c.args.self.now);
  later = later_itself (g.R.Sources.reading c.args.self.now.sources);
}

pub loop-key-preserved : goal.loop-key-preserved
loop-key-preserved g c =
    let keys = c.args.keys.now in
    let i = c.loop-key.key-index in
    record {
      played = subst (λ (ks : List ℕ). Played (seen g.R.Sources.reading c.args.self.now) ks (seen g.R.Sources.reading c.press.new.self)) (sym (take_more keys i 0 c.loop-key-test.true))
          (played_more (seen g.R.Sources.reading c.args.self.now) (seen g.R.Sources.reading c.loop-key.self) (seen g.R.Sources.reading c.press.new.self) (take i keys) (get_or keys i 0) c.loop-key.invariant.played c.press.ensures.presses.0);
      later = later_then c.loop-key.invariant.later c.press.ensures.later;
    }

pub returns-clause-plays : goal.returns-clause-plays
returns-clause-plays g c =
    all_played (seen g.R.Sources.reading c.args.self.now) (seen g.R.Sources.reading c.loop-key.self) c.args.keys.now
    (subst (λ (ks : List ℕ). Played (seen g.R.Sources.reading c.args.self.now) ks (seen g.R.Sources.reading c.loop-key.self)) (take_all c.loop-key.key-index c.args.keys.now c.loop-key-test.false) c.loop-key.invariant.played)
