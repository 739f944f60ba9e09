use Rattle.std.proofs.Common.{refl, sym, ◌∙◌, arith}
use Rattle.std.proofs.lemmas.Bool.{le-ltb, lt-ltb}
use Rattle.session_checker.proofs.SpliceSteps.{and_false, first_apart, next_apart, next_touches}
use Rattle.session_checker.proofs.splice_rules.are_apart.Goals.{then-before-here-via-then-before-here, then-before-here-via-else-before-here+then-not-is_inside}
use Rattle.session_checker.proofs.splice_rules.are_apart.Goals as goal

pub loop-i-init : goal.loop-i-init
loop-i-init g c = first_apart (g.P.Splices.splices c.args.splices.now) c.args.first c.args.count c.splice-before.result (omega (arith, c.if-count-eq0.false)) c.splice-before.ensures

pub returns-then-before-here : goal.returns-then-before-here
returns-then-before-here g c =
    sym (c.loop-i.invariant ∙ next_touches (g.P.Splices.splices c.args.splices.now) c.args.first c.args.count c.loop-i.i c.loop-i.before c.splice-here.result c.loop-i-test.true c.splice-here.ensures
    (elim c.then-before-here.branch [
      | then-before-here-via-then-before-here w ↦ rw (le-ltb _ _ w.if-before-here.true) refl
      | then-before-here-via-else-before-here+then-not-is_inside w ↦ and_false _ _ (sym w.is_inside.ensures ∙ w.if-not-is_inside.true)
    ]))

pub loop-i-preserved : goal.loop-i-preserved
loop-i-preserved g c =
    c.loop-i.invariant ∙ next_apart (g.P.Splices.splices c.args.splices.now) c.args.first c.args.count c.loop-i.i c.loop-i.before c.splice-here.result c.loop-i-test.true c.splice-here.ensures
    (lt-ltb c.loop-i.before.p c.splice-here.result.p c.if-before-here.false) (sym c.is_inside.ensures ∙ c.if-not-is_inside.false)
