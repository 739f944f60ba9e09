use Rattle.span_certificate.proofs.Contents.{of_node, described_only}
use Rattle.span_certificate.proofs.exact.describe_span.Goals as goal

pub returns-in-Within-clause-value : goal.returns-in-Within-clause-value
returns-in-Within-clause-value g c =
    let of = of_node c.args.part c.args.off c.in-Within.node c.in-Within.start c.in-Within.ensures.value in
    rw of.is (rw of.at at c.describe_node.ensures.value)

pub returns-in-Described-clause-value : goal.returns-in-Described-clause-value
returns-in-Described-clause-value g c =
    described_only (g.S.CountedSpace.table c.args.space.now) (g.S.CountedSpace.coded c.args.space.now) c.args.part c.args.off c.args.len c.in-Described.d c.in-Described.ensures.value
