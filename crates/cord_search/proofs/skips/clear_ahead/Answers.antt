use Rattle.std.proofs.Common.{arith}
use Rattle.cord_search.proofs.Repeats.{clear_run}
use Rattle.cord_search.proofs.skips.clear_ahead.Goals as goal

pub returns-in-Some-clause-clear : goal.returns-in-Some-clause-clear
returns-in-Some-clause-clear g c =
    let here = c.args.pos.now in
    clear_run (g.S.NodeSpace.table here.space) here.rope here.index c.in-Some.period c.args.count c.saturating_sub-reach.result c.args.need c.in-Some.ensures (omega (arith, c.if-period-count.true))
    (omega (arith, c.saturating_sub-reach.ensures, c.run_left.ensures.exact, c.if-reach-count.false, c.requires.some))
