use Rattle.std.proofs.Common.{arith}
use Rattle.rebalance.proofs.FibonacciList.{listed}
use Rattle.rebalance.proofs.balanced.fibonacci.Goals as goal

pub returns : goal.returns
returns c = rw c.from.ensures (listed c.args.n (omega (arith, c.requires)))
