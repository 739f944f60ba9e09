use Rattle.std.proofs.Common.{◌≡◌, ◌+◌}
use Rattle.rope_node.specs.Table.{view_at}
use Rattle.span_descent.specs.Trails.{IsOnWay}
use Rattle.span_certificate.proofs.walk.next_old.Given as goal

abbrev pub invariant-down : goal.invariant-down
invariant-down g l = record {
  part : IsOnWay g.W.Way.is_way g.W.Way.is_at g.W.Way.lies (g.S.CountedSpace.table l.space) l.x l.of_part l.a;
  root : IsOnWay g.W.Way.is_way g.W.Way.is_at g.W.Way.lies (g.S.CountedSpace.table l.space) l.y l.of_root l.b;
  first : l.first ≡ g.W.Way.lies l.x l.a;
  second : l.second ≡ g.W.Way.lies l.y l.b;
  of_a : l.of_a ≡ view_at (g.S.CountedSpace.table l.space) (g.W.Way.lies l.x l.a).node.0;
  of_b : l.of_b ≡ view_at (g.S.CountedSpace.table l.space) (g.W.Way.lies l.y l.b).node.0;
}

abbrev pub decreases-down : goal.decreases-down
decreases-down g l = (g.W.Way.lies l.x l.a).node.0 + (g.W.Way.lies l.y l.b).node.0
