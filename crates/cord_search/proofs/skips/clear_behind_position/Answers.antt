use Rattle.std.proofs.Common.{sym, ◌∙◌, arith}
use Rattle.cord_search.proofs.Reaching.{set_there}
use Rattle.cord_search.proofs.Repeats.{clear_from}
use Rattle.cord_search.proofs.skips.clear_behind_position.Goals as goal

pub returns-in-Some-clause-clear : goal.returns-in-Some-clause-clear
returns-in-Some-clause-clear g c =
    let table = g.S.NodeSpace.table in
    let at = set_there table c.set-start.result c.args.space.now c.args.x c.run_start-first.result c.set-start.ensures.space c.set-start.ensures.rope c.set-start.ensures.index in
    clear_from table c.args.pos.now c.set-start.result c.args.space.now c.args.x c.run_start-first.result c.in-Some.period c.args.count c.requires.here.0 c.requires.here.1 at c.run_start-first.ensures.before
    (sym c.rope_len-len.ensures.cells ∙ c.rope_len-len.ensures.exact) c.run_start-first.ensures.same_end (omega (arith, c.run_left.ensures.inside, c.run_left.ensures.exact)) c.in-Some.ensures
    (omega (arith, c.if-period-min.true, c.min.ensures)) (omega (arith, c.if-period-min.true, c.min.ensures, c.run_left.ensures.exact))
