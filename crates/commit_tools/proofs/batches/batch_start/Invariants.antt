use Rattle.std.proofs.Common.{◌+◌, ◌<◌, ◌≤◌}
use Rattle.std.specs.Prelude.{slice_range}
use Rattle.command_parts.specs.declared.edit.TheConstants.{MOST_SPLICES}
use Rattle.commit_tools.specs.Stops.{EndApart}
use Rattle.commit_tools.proofs.batches.batch_start.Given as goal

abbrev pub invariant-loop-first : goal.invariant-loop-first
invariant-loop-first l = record {
  some : l.first < l.left;
  few : l.left ≤ l.first + MOST_SPLICES;
  apart : EndApart (slice_range l.found.changes.items l.first l.left);
}

abbrev pub decreases-loop-first : goal.decreases-loop-first
decreases-loop-first l = l.first
