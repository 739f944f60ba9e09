-- The codes of refusals, as a program prints them.
use Rattle.std.specs.Prelude.{ℕ, List, codes}
use Rattle.node_table.specs.Codes.{node_fault_code as node_code}
use Rattle.rebalance.specs.declared.fault.BalanceFault.{BalanceFault}
use Rattle.rebalance.specs.declared.fault.BalanceFault.TheVariants.{TooManyPieces, Node}

abbrev pub balance_fault_code : BalanceFault → List ℕ
balance_fault_code TooManyPieces = codes "B1"
balance_fault_code (Node fault) = node_code fault
