use Rattle.rebalance.proofs.balancing.+fill.Given as goal

abbrev pub decreases-fill : goal.decreases-fill
decreases-fill g l = l.span.node.0
