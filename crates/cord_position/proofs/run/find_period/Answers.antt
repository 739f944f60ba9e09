use Rattle.std.proofs.Common.{sym}
use Rattle.cord_position.proofs.RunPeriods.{period_of_run}
use Rattle.cord_position.proofs.run.find_period.Goals as goal

pub returns-in-Fun : goal.returns-in-Fun
returns-in-Fun g c =
    period_of_run (g.S.NodeSpace.table c.args.space.now) c.requires.sound c.args.rope c.args.place c.in_ok-span.span c.in_ok-span.ensures.exact c.in_ok-span.ensures.run (sym c.in-Fun.ensures.view) c.period.result c.period.ensures
