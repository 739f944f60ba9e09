use Rattle.cord_tools.proofs.join.+join_range.Given as goal

abbrev pub decreases-join_range : goal.decreases-join_range
decreases-join_range l = l.count
