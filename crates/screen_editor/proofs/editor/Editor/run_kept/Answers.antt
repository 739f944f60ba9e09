use Rattle.std.proofs.Common.{◌≡◌, ◌<◌, arith, subst}
use Rattle.std.proofs.lemmas.Result.{err_from_is_err_and}
use Rattle.key_journal.specs.Left.{keys_kept, keys_left}
use Rattle.screen_editor.specs.Editing.{seen}
use Rattle.screen_editor.proofs.LaterReadings.{later_itself, later_then}
use Rattle.screen_editor.specs.declared.running.TheConstants.{MOST_KEYS}
use Rattle.screen_editor.proofs.ManyTurns.{Ran, ran_none, ran_more, ran_to_end, ran_to_fault, ran_too_long}
use Rattle.screen_editor.proofs.Playing.{keeps_none, keeps_then}
use Rattle.screen_editor.proofs.editor.Editor.run_kept.Goals as goal

pub loop-init : goal.loop-init
loop-init g c = record {
  ran = ran_none (keys_left g.K.Read.remaining c.args.keys.now) (g.W.Write.contents c.args.screen.now) (seen g.R.Sources.reading c.args.self.now);
  later = later_itself (g.R.Sources.reading c.args.self.now.sources);
  kept = keeps_none (keys_left g.K.Read.remaining c.args.keys.now) (keys_kept g.J.Write.contents c.args.keys.now);
}

pub returns-in_err-end-clause-run : goal.returns-in_err-end-clause-run
returns-in_err-end-clause-run g c =
    let p = err_from_is_err_and c.from_residual.result c.from_residual.ensures.1 in
    let fault = c.in_err-end.field-0.0 in
    let few : c.loop.counter < MOST_KEYS = c.loop-test.true in
    rw (p.1, p.2) (ran_to_fault (keys_left g.K.Read.remaining c.args.keys.now) (keys_left g.K.Read.remaining c.loop.keys) (keys_left g.K.Read.remaining c.turn_kept.new.keys)
    (g.W.Write.contents c.args.screen.now) (g.W.Write.contents c.loop.screen) (g.W.Write.contents c.turn_kept.new.screen) (seen g.R.Sources.reading c.args.self.now) (seen g.R.Sources.reading c.loop.self) (seen g.R.Sources.reading c.turn_kept.new.self) c.loop.counter fault few c.loop.invariant.ran
    c.in_err-end.ensures.turn)

pub returns-in-Some-clause-run : goal.returns-in-Some-clause-run
returns-in-Some-clause-run g c =
    let few : c.loop.counter < MOST_KEYS = c.loop-test.true in
    ran_to_end (keys_left g.K.Read.remaining c.args.keys.now) (keys_left g.K.Read.remaining c.loop.keys) (keys_left g.K.Read.remaining c.turn_kept.new.keys)
    (g.W.Write.contents c.args.screen.now) (g.W.Write.contents c.loop.screen) (g.W.Write.contents c.turn_kept.new.screen) (seen g.R.Sources.reading c.args.self.now) (seen g.R.Sources.reading c.loop.self) (seen g.R.Sources.reading c.turn_kept.new.self) c.loop.counter c.in-Some.end few c.loop.invariant.ran
    (rw c.in-Some.is at c.in_ok-end.ensures.turn)

pub loop-preserved : goal.loop-preserved
loop-preserved g c = record {
  ran = ran_more (keys_left g.K.Read.remaining c.args.keys.now) (keys_left g.K.Read.remaining c.loop.keys) (keys_left g.K.Read.remaining c.turn_kept.new.keys)
      (g.W.Write.contents c.args.screen.now) (g.W.Write.contents c.loop.screen) (g.W.Write.contents c.turn_kept.new.screen) (seen g.R.Sources.reading c.args.self.now) (seen g.R.Sources.reading c.loop.self) (seen g.R.Sources.reading c.turn_kept.new.self) c.loop.counter c.loop.invariant.ran
      (rw c.in_default.is at c.in_ok-end.ensures.turn);
  later = later_then c.loop.invariant.later c.turn_kept.ensures.later;
  kept = keeps_then (keys_left g.K.Read.remaining c.args.keys.now) (keys_left g.K.Read.remaining c.loop.keys) (keys_left g.K.Read.remaining c.turn_kept.new.keys)
      (keys_kept g.J.Write.contents c.args.keys.now) (keys_kept g.J.Write.contents c.loop.keys) (keys_kept g.J.Write.contents c.turn_kept.new.keys) c.loop.invariant.kept c.turn_kept.ensures.kept;
}

pub returns-clause-run : goal.returns-clause-run
returns-clause-run g c =
    let all : c.loop.counter ≡ MOST_KEYS = omega (arith, c.loop-test.false, c.loop.auto.counter-end) in
    ran_too_long (keys_left g.K.Read.remaining c.args.keys.now) (keys_left g.K.Read.remaining c.loop.keys) (g.W.Write.contents c.args.screen.now) (g.W.Write.contents c.loop.screen) (seen g.R.Sources.reading c.args.self.now) (seen g.R.Sources.reading c.loop.self)
    (subst (Ran (keys_left g.K.Read.remaining c.args.keys.now) (keys_left g.K.Read.remaining c.loop.keys) (g.W.Write.contents c.args.screen.now) (g.W.Write.contents c.loop.screen) (seen g.R.Sources.reading c.args.self.now) (seen g.R.Sources.reading c.loop.self)) all c.loop.invariant.ran)

pub returns-in_err-end-clause-kept : goal.returns-in_err-end-clause-kept
returns-in_err-end-clause-kept g c =
    keeps_then (keys_left g.K.Read.remaining c.args.keys.now) (keys_left g.K.Read.remaining c.loop.keys) (keys_left g.K.Read.remaining c.turn_kept.new.keys)
    (keys_kept g.J.Write.contents c.args.keys.now) (keys_kept g.J.Write.contents c.loop.keys) (keys_kept g.J.Write.contents c.turn_kept.new.keys) c.loop.invariant.kept c.turn_kept.ensures.kept

pub returns-in-Some-clause-kept : goal.returns-in-Some-clause-kept
returns-in-Some-clause-kept g c =
    keeps_then (keys_left g.K.Read.remaining c.args.keys.now) (keys_left g.K.Read.remaining c.loop.keys) (keys_left g.K.Read.remaining c.turn_kept.new.keys)
    (keys_kept g.J.Write.contents c.args.keys.now) (keys_kept g.J.Write.contents c.loop.keys) (keys_kept g.J.Write.contents c.turn_kept.new.keys) c.loop.invariant.kept c.turn_kept.ensures.kept
