use Rattle.std.proofs.Common.{◌≡◌, ◌+◌, ◌≤◌, length, drop}
use Rattle.edit_commands.specs.Session.{roots_of, session_table}
use Rattle.commit_tools.specs.Earlier.{HaveOthers, count_as_long}
use Rattle.commit_tools.specs.declared.earlier.TheConstants.{TEXTS_COMPARED}
use Rattle.commit_tools.proofs.earlier.latest_same.Given as goal

abbrev pub invariant-loop-r : goal.invariant-loop-r
invariant-loop-r g l = record {
  reads : g.T.Sources.reading l.sources ≡ g.T.Sources.reading l.initial.sources;
  inside : l.r ≤ length l.session.revisions;
  others : HaveOthers (g.T.Sources.reading l.initial.sources).stated l.session l.file l.r;
  counted : TEXTS_COMPARED ≤ l.owed + count_as_long (session_table l.session) (length l.file) (drop l.r (roots_of l.session.revisions));
}

abbrev pub decreases-loop-r : goal.decreases-loop-r
decreases-loop-r g l = l.r
