use Rattle.std.proofs.Common.{arith}
use Rattle.rebalance.proofs.Fibonacci.{first_ones}
use Rattle.rebalance.proofs.slots.slot_near.Goals as goal

pub returns-else-near-ge2-clause-long : goal.returns-else-near-ge2-clause-long
returns-else-near-ge2-clause-long c = omega (arith, first_ones.1, c.requires)
