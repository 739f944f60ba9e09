use Rattle.std.proofs.Common.{◌+◌, ◌≤◌}
use Rattle.rope_node.specs.declared.limits.TheConstants.{MOST_DEPTH}
use Rattle.rope_node.specs.Table.{depth_at}
use Rattle.span_descent.specs.Trails.{IsOnWay}
use Rattle.span_descent.specs.Leads.{Leads}
use Rattle.span_descent.proofs.descent.leads_to.Given as goal

abbrev pub invariant-down : goal.invariant-down
invariant-down g l = record {
  on : IsOnWay g.W.Way.is_way g.W.Way.is_at g.W.Way.lies (g.S.CountedSpace.table l.space) l.x l.way l.here;
  looks : l.count + depth_at (g.S.CountedSpace.table l.space) (g.W.Way.lies l.x l.here).node.0 ≤ l.fn.count + MOST_DEPTH;
  long : l.x.len ≤ (g.W.Way.lies l.x l.here).len;
  forth : Leads (g.S.CountedSpace.table l.space) l.x.len l.node.0 l.at l.x.node.0 l.x.start → Leads (g.S.CountedSpace.table l.space) l.x.len l.node.0 l.at (g.W.Way.lies l.x l.here).node.0 (g.W.Way.lies l.x l.here).start;
}

abbrev pub decreases-down : goal.decreases-down
decreases-down g l = (g.W.Way.lies l.x l.here).node.0
