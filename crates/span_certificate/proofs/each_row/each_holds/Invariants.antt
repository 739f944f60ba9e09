use Rattle.std.proofs.Common.{◌≡◌, ℕ, ◌<◌}
use Rattle.span_certificate.specs.Covers.{place_of, row_at}
use Rattle.command_parts.specs.Places.{IsAt}
use Rattle.span_descent.specs.Trails.{AreWays}
use Rattle.span_certificate.proofs.each_row.each_holds.Given as goal

abbrev pub invariant-loop-j : goal.invariant-loop-j
invariant-loop-j g l = record {
  stands : l.place ≡ place_of l.rows l.j;
  each : (i : ℕ) → i < l.j → g.Q.Question.holds (g.S.NodeSpace.table l.space) l.fn.parts l.root (place_of l.rows i) (row_at l.rows i);
  at : IsAt l.fn.parts l.place l.at.part l.at.off l.at.rest;
  ways : AreWays g.W.Way.is_way (g.S.NodeSpace.table l.space) l.ways;
}
