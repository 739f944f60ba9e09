use Rattle.span_descent.proofs.OnePlace.{described_by_leaf, described_by_none}
use Rattle.span_certificate.proofs.exact.describe_node.Goals as goal

pub returns-in-None-clause-value : goal.returns-in-None-clause-value
returns-in-None-clause-value g c = described_by_none (g.S.CountedSpace.table c.args.space.now) (g.S.CountedSpace.coded c.args.space.now) c.args.x.len c.args.x.node.0 c.args.x.start c.in-None.ensures.leads

pub returns-in-Some-clause-value : goal.returns-in-Some-clause-value
returns-in-Some-clause-value g c =
    rw c.describe.ensures.value (described_by_leaf (g.S.CountedSpace.table c.args.space.now) (g.S.CountedSpace.coded c.args.space.now) c.args.x.len c.args.x.node.0 c.args.x.start c.in-Some.span c.in-Some.ensures.leads)
