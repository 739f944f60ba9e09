use Rattle.std.proofs.Common.{◌≡◌, ◌-◌, ◌≤◌}
use Rattle.cord_tools.proofs.FoundPlaces.{HasFound}
use Rattle.cord_tools.proofs.find_all.run_find_all_told.Given as goal

-- the sources are as they were, and no read of them has failed
abbrev pub invariant-loop-from : goal.invariant-loop-from
invariant-loop-from g l = record {
  reads : g.T.Sources.reading l.sources ≡ g.T.Sources.reading l.initial.sources;
  on : l.fn.start ≤ l.from;
  found : HasFound (g.T.Sources.reading l.initial.sources).stated l.pattern l.fn.start l.from l.status (g.W.Write.contents l.initial.writer) (g.W.Write.contents l.writer);
}

abbrev pub decreases-loop-from : goal.decreases-loop-from
decreases-loop-from g l = l.end - l.from
