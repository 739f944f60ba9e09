use Rattle.std.proofs.Common.{◌≡◌, ◌<◌, arith, subst}
use Rattle.std.proofs.lemmas.Result.{err_from_is_err_and}
use Rattle.std.specs.Option.{option_map}
use Rattle.key_journal.specs.Left.{keys_kept, keys_left}
use Rattle.screen_editor.specs.Editing.{seen}
use Rattle.screen_editor.proofs.LaterReadings.{later_itself, later_then}
use Rattle.screen_editor.specs.declared.running.TheConstants.{MOST_KEYS}
use Rattle.screen_editor.proofs.TypedTurns.{Typing, typing_none, typing_more, typing_ends, typing_fails, typing_too_long}
use Rattle.screen_editor.proofs.Playing.{keeps_none, keeps_then}
use Rattle.screen_editor.proofs.editor.Editor.run_typed.Goals as goal

pub loop-init : goal.loop-init
loop-init g c = record {
  typing = typing_none (option_map (λ h. h.now) c.args.hint) c.args.untaken (keys_left g.K.Read.remaining c.args.keys.now) (g.W.Write.contents c.args.screen.now) (seen g.R.Sources.reading c.args.self.now);
  later = later_itself (g.R.Sources.reading c.args.self.now.sources);
  kept = keeps_none (keys_left g.K.Read.remaining c.args.keys.now) (keys_kept g.J.Write.contents c.args.keys.now);
}

pub returns-in_err-end-clause-run : goal.returns-in_err-end-clause-run
returns-in_err-end-clause-run g c =
    let p = err_from_is_err_and c.from_residual.result c.from_residual.ensures.1 in
    let fault = c.in_err-end.field-0.0 in
    let few : c.loop.counter < MOST_KEYS = c.loop-test.true in
    rw (p.1, p.2) (typing_fails (option_map (λ h. h.now) c.args.hint) c.args.untaken (keys_left g.K.Read.remaining c.args.keys.now) (keys_left g.K.Read.remaining c.loop.keys) (keys_left g.K.Read.remaining c.turn_typed.new.keys)
    (g.W.Write.contents c.args.screen.now) (g.W.Write.contents c.loop.screen) (g.W.Write.contents c.turn_typed.new.screen) (seen g.R.Sources.reading c.args.self.now) (seen g.R.Sources.reading c.loop.self) (seen g.R.Sources.reading c.turn_typed.new.self) (option_map (λ h. h.now) c.loop.told) c.loop.count c.turn_typed.new.untaken c.loop.counter fault few c.loop.invariant.typing
    c.in_err-end.ensures.turn)

pub returns-in-Some-clause-run : goal.returns-in-Some-clause-run
returns-in-Some-clause-run g c =
    let few : c.loop.counter < MOST_KEYS = c.loop-test.true in
    typing_ends (option_map (λ h. h.now) c.args.hint) c.args.untaken (keys_left g.K.Read.remaining c.args.keys.now) (keys_left g.K.Read.remaining c.loop.keys) (keys_left g.K.Read.remaining c.turn_typed.new.keys)
    (g.W.Write.contents c.args.screen.now) (g.W.Write.contents c.loop.screen) (g.W.Write.contents c.turn_typed.new.screen) (seen g.R.Sources.reading c.args.self.now) (seen g.R.Sources.reading c.loop.self) (seen g.R.Sources.reading c.turn_typed.new.self) (option_map (λ h. h.now) c.loop.told) c.loop.count c.turn_typed.new.untaken c.loop.counter c.in-Some.end few c.loop.invariant.typing
    (rw c.in-Some.is at c.in_ok-end.ensures.turn)

pub loop-preserved : goal.loop-preserved
loop-preserved g c = record {
  typing = typing_more (option_map (λ h. h.now) c.args.hint) c.args.untaken (keys_left g.K.Read.remaining c.args.keys.now) (keys_left g.K.Read.remaining c.loop.keys) (keys_left g.K.Read.remaining c.turn_typed.new.keys)
      (g.W.Write.contents c.args.screen.now) (g.W.Write.contents c.loop.screen) (g.W.Write.contents c.turn_typed.new.screen) (seen g.R.Sources.reading c.args.self.now) (seen g.R.Sources.reading c.loop.self) (seen g.R.Sources.reading c.turn_typed.new.self) (option_map (λ h. h.now) c.loop.told) c.loop.count c.turn_typed.new.untaken c.loop.counter c.loop.invariant.typing
      (rw c.in_default.is at c.in_ok-end.ensures.turn);
  later = later_then c.loop.invariant.later c.turn_typed.ensures.later;
  kept = keeps_then (keys_left g.K.Read.remaining c.args.keys.now) (keys_left g.K.Read.remaining c.loop.keys) (keys_left g.K.Read.remaining c.turn_typed.new.keys)
      (keys_kept g.J.Write.contents c.args.keys.now) (keys_kept g.J.Write.contents c.loop.keys) (keys_kept g.J.Write.contents c.turn_typed.new.keys) c.loop.invariant.kept c.turn_typed.ensures.kept;
}

pub returns-clause-run : goal.returns-clause-run
returns-clause-run g c =
    let all : c.loop.counter ≡ MOST_KEYS = omega (arith, c.loop-test.false, c.loop.auto.counter-end) in
    typing_too_long (option_map (λ h. h.now) c.args.hint) c.args.untaken (keys_left g.K.Read.remaining c.args.keys.now) (keys_left g.K.Read.remaining c.loop.keys) (g.W.Write.contents c.args.screen.now) (g.W.Write.contents c.loop.screen) (seen g.R.Sources.reading c.args.self.now) (seen g.R.Sources.reading c.loop.self) (option_map (λ h. h.now) c.loop.told) c.loop.count
    (subst (Typing (option_map (λ h. h.now) c.args.hint) c.args.untaken (keys_left g.K.Read.remaining c.args.keys.now) (keys_left g.K.Read.remaining c.loop.keys) (g.W.Write.contents c.args.screen.now) (g.W.Write.contents c.loop.screen) (seen g.R.Sources.reading c.args.self.now) (seen g.R.Sources.reading c.loop.self) (option_map (λ h. h.now) c.loop.told) c.loop.count) all c.loop.invariant.typing)

pub returns-in_err-end-clause-kept : goal.returns-in_err-end-clause-kept
returns-in_err-end-clause-kept g c =
    keeps_then (keys_left g.K.Read.remaining c.args.keys.now) (keys_left g.K.Read.remaining c.loop.keys) (keys_left g.K.Read.remaining c.turn_typed.new.keys)
    (keys_kept g.J.Write.contents c.args.keys.now) (keys_kept g.J.Write.contents c.loop.keys) (keys_kept g.J.Write.contents c.turn_typed.new.keys) c.loop.invariant.kept c.turn_typed.ensures.kept

pub returns-in-Some-clause-kept : goal.returns-in-Some-clause-kept
returns-in-Some-clause-kept g c =
    keeps_then (keys_left g.K.Read.remaining c.args.keys.now) (keys_left g.K.Read.remaining c.loop.keys) (keys_left g.K.Read.remaining c.turn_typed.new.keys)
    (keys_kept g.J.Write.contents c.args.keys.now) (keys_kept g.J.Write.contents c.loop.keys) (keys_kept g.J.Write.contents c.turn_typed.new.keys) c.loop.invariant.kept c.turn_typed.ensures.kept
