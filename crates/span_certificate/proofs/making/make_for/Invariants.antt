use Rattle.std.proofs.Common.{◌-◌, Some}
use Rattle.rope_node.specs.Table.{len_at}
use Rattle.command_parts.specs.Places.{IsAt}
use Rattle.span_descent.specs.Trails.{AreWays}
use Rattle.span_certificate.proofs.Made.{IsMaking}
use Rattle.span_certificate.proofs.making.make_for.Given as goal

abbrev pub invariant-loop-place : goal.invariant-loop-place
invariant-loop-place g l = record {
  making : IsMaking (g.S.NodeSpace.table l.space) (g.S.CodedSpace.coded l.space) l.fn.parts (Some l.root) l.rows.items l.place;
  ways : AreWays g.W.Way.is_way (g.S.NodeSpace.table l.space) l.ways;
  at : IsAt l.fn.parts l.place l.at.part l.at.off l.at.rest;
}

abbrev pub decreases-loop-place : goal.decreases-loop-place
decreases-loop-place g l = len_at (g.S.NodeSpace.table l.space) l.root.0 - l.place
