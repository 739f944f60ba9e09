use Rattle.std.proofs.Common.{◌≡◌, ◌+◌, ◌≤◌}
use Rattle.command_parts.specs.Places.{IsAt}
use Rattle.span_descent.specs.Trails.{AreWays}
use Rattle.span_certificate.proofs.RowLooks.{looks_before}
use Rattle.span_certificate.proofs.Verdicts.{IsVerifying}
use Rattle.span_certificate.proofs.cover.verify_rows.Given as goal

abbrev pub invariant-loop-j : goal.invariant-loop-j
invariant-loop-j g l = record {
  verifying : IsVerifying (g.S.CountedSpace.table l.space) (g.S.CountedSpace.coded l.space) (g.T.Sources.reading l.fn.sources).stated l.fn.parts l.root (g.R.Rows.listed l.rows) l.j l.place;
  at : IsAt l.fn.parts l.place l.at.part l.at.off l.at.rest;
  looks : l.count ≤ l.fn.count + looks_before (g.R.Rows.listed l.rows) l.j;
  ways : AreWays g.W.Way.is_way (g.S.CountedSpace.table l.space) l.ways;
  reads : g.T.Sources.reading l.sources ≡ g.T.Sources.reading l.fn.sources;
}
