use Rattle.std.proofs.Common.{◌-◌, ◌≤◌, take, drop}
use Rattle.std.specs.Prelude.{All}
use Rattle.span_certificate.specs.Covers.{IsByte}
use Rattle.command_parts.specs.Parts.{part_cells}
use Rattle.span_descent.specs.Trails.{IsWayOf}
use Rattle.span_certificate.proofs.over_bytes.are_bytes.Given as goal

abbrev pub invariant-loop-done : goal.invariant-loop-done
invariant-loop-done g l = record {
  inside : l.done ≤ l.len;
  bytes : All IsByte (take l.done (drop l.off (part_cells (g.S.CountedSpace.table l.space) l.part)));
  way : IsWayOf g.W.Way.is_way (g.S.CountedSpace.table l.space) l.way;
}

abbrev pub decreases-loop-done : goal.decreases-loop-done
decreases-loop-done g l = l.len - l.done
