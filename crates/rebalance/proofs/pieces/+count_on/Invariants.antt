use Rattle.rebalance.proofs.pieces.+count_on.Given as goal

abbrev pub decreases-count_on : goal.decreases-count_on
decreases-count_on g l = l.span.node.0
