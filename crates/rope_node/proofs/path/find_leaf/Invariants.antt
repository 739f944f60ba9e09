use Rattle.rope_node.proofs.Paths.{IsOnPath}
use Rattle.rope_node.proofs.path.find_leaf.Given as goal

abbrev pub invariant-down : goal.invariant-down
invariant-down g l = IsOnPath (g.S.NodeSpace.table l.space) l.fn.node.0 l.place l.here l.visits

abbrev pub decreases-down : goal.decreases-down
decreases-down g l = l.here.node.0
