use Rattle.std.proofs.Common.{◌+◌, ◌≤◌, arith}
use Rattle.rope_node.specs.Balance.{fibonacci}
use Rattle.rebalance.proofs.Fibonacci.{fibonacci_below, first_ones, sixtieth}
use Rattle.rebalance.proofs.slots.slot_for.Goals as goal

pub loop-slot-init : goal.loop-slot-init
loop-slot-init c = (omega arith, omega (arith, first_ones.1, c.requires.some), omega arith)

pub loop-slot-preserved : goal.loop-slot-preserved
loop-slot-preserved c =
    let long : fibonacci (c.loop-slot.slot + 1) ≤ c.args.len = omega (arith, c.fibonacci.ensures, c.loop-slot-test.true) in
    (omega (arith, c.loop-slot.invariant.0), long, fibonacci_below (c.loop-slot.slot + 1) 60 (omega (arith, long, sixtieth, c.requires.short)))
