use Rattle.std.proofs.Common.{◌+◌, ◌≤◌}
use Rattle.rope_node.specs.declared.limits.TheConstants.{MOST_DEPTH}
use Rattle.rope_node.specs.Table.{depth_at}
use Rattle.span_descent.specs.Trails.{IsOnWay}
use Rattle.span_descent.proofs.descent.first_leaf.Given as goal

abbrev pub invariant-down : goal.invariant-down
invariant-down g l = record {
  on : IsOnWay g.W.Way.is_way g.W.Way.is_at g.W.Way.lies (g.S.CountedSpace.table l.space) l.x l.way l.here;
  looks : l.count + depth_at (g.S.CountedSpace.table l.space) (g.W.Way.lies l.x l.here).node.0 ≤ l.fn.count + MOST_DEPTH;
}

abbrev pub decreases-down : goal.decreases-down
decreases-down g l = (g.W.Way.lies l.x l.here).node.0
