use Rattle.cord_types.proofs.ToldRuns.{told_run}
use Rattle.cord_types.proofs.span.located.Goals as goal

pub returns-clause-run : goal.returns-clause-run
returns-clause-run g c =
    told_run (g.S.NodeSpace.table c.args.space.now) (g.S.CodedSpace.coded c.args.space.now) c.args.rope c.args.place c.in_ok-span.span c.described-what.result c.of.result c.in_ok-span.ensures.exact c.in_ok-span.ensures.run c.described-what.ensures.value
    c.described-what.ensures.describes c.of.ensures
