use Rattle.std.proofs.Common.{◌≡◌, Some, arith}
use Rattle.cord_types.proofs.ToldRuns.{span_run}
use Rattle.cord_types.proofs.span.span_of.Goals as goal

pub returns-in-Some-clause-run : goal.returns-in-Some-clause-run
returns-in-Some-clause-run g c =
    let is : c.args.rope ≡ Some c.in-Some.node = cc in
    span_run (g.S.NodeSpace.table c.args.space.now) c.count-count.ensures.sound c.count-count.ensures.true_records c.args.rope c.in-Some.node c.args.place c.leaf_span.result is (rw is at c.requires) (omega arith) c.leaf_span.ensures
