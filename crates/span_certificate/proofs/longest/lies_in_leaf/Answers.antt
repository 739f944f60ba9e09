use Rattle.span_certificate.proofs.LongestRows.{lies_so}
use Rattle.span_certificate.proofs.longest.lies_in_leaf.Goals as goal

pub returns-in-Some-clause-lies : goal.returns-in-Some-clause-lies
returns-in-Some-clause-lies g c =
    rw (c.in-Old.is, c.in-Some.is)
    (lies_so (g.S.CountedSpace.table c.args.space.now) c.args.len c.in-Some.node.0 _ c.leaf_span.result c.is_some.result c.leaf_span.ensures.leads c.is_some.ensures)
