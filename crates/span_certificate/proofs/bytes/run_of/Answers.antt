use Rattle.std.proofs.Common.{arith}
use Rattle.span_certificate.proofs.RunLaws.{old_run, described_run}
use Rattle.span_certificate.proofs.bytes.run_of.Goals as goal

pub returns-in-Described-clause-run : goal.returns-in-Described-clause-run
returns-in-Described-clause-run g c =
    described_run (g.S.CountedSpace.table c.args.space.now) c.requires.way.sound c.args.part c.args.off c.args.left c.in-Described.what c.in-Described.ensures.value c.requires.part c.requires.some c.ranges.left.fits c.requires.inside

pub returns-in-Some-clause-run : goal.returns-in-Some-clause-run
returns-in-Some-clause-run g c =
    old_run (g.S.CountedSpace.table c.args.space.now) c.requires.way.sound c.requires.way.true_records c.args.part c.in-Within.node c.in-Within.start c.args.off c.args.left c.first_leaf-z.result.span c.in-Some.what
    c.in-Within.ensures.value c.requires.inside (record { there = c.in-Within.ensures.within.0; some = c.requires.some; inside = omega (arith, c.in-Within.ensures.within.1, c.requires.inside) }) c.first_leaf-z.ensures.leaf.reached c.in-Some.ensures.describes
