use Rattle.cord_search.proofs.runs.+gather.Given as goal

abbrev pub decreases-gather : goal.decreases-gather
decreases-gather g l = l.node.0
