use Rattle.byte_origins.proofs.LeafSpanSteps.{IsOnWay}
use Rattle.byte_origins.proofs.descent.leaf_span.Given as goal

abbrev pub invariant-down : goal.invariant-down
invariant-down g l = IsOnWay (g.S.NodeSpace.table l.space) l.fn.node.0 l.place l.here

abbrev pub decreases-down : goal.decreases-down
decreases-down g l = l.here.node.0
