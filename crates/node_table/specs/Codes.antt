-- The codes of refusals, as a program prints them.
use Rattle.std.specs.Prelude.{ℕ, List, codes}
use Rattle.node_table.specs.declared.fault.NodeFault.{NodeFault}
use Rattle.node_table.specs.declared.fault.NodeFault.TheVariants.{TooLong, TooDeep, TableFull, PoolFull, BadSpan, TooManySources, Memory}

abbrev pub node_fault_code : NodeFault → List ℕ
node_fault_code TooLong = codes "N1"
node_fault_code TooDeep = codes "N2"
node_fault_code TableFull = codes "N3"
node_fault_code PoolFull = codes "N4"
node_fault_code BadSpan = codes "N5"
node_fault_code TooManySources = codes "N6"
node_fault_code Memory = codes "Memory"
