-- What the faults of lower calls are told as, and the codes that a program prints.
use Rattle.std.specs.Prelude.{ℕ, List, ◌++◌, codes, Result, Ok, Err}
use Rattle.node_table.specs.Codes.{node_fault_code as node_code}
use Rattle.node_table.specs.declared.fault.NodeFault.{NodeFault}
use Rattle.rebalance.specs.declared.fault.BalanceFault.{BalanceFault}
use Rattle.span_certificate.specs.declared.making.MakeFault.{MakeFault}
use Rattle.edit_commands.specs.declared.fault.EditFault.{EditFault}
use Rattle.edit_commands.specs.declared.fault.EditFault.TheVariants.{NoRevision, NoSource, Range, EmptyText, TooManyRevisions, TooManyRows, Node, TooManyPieces, SpliceCount, TooManySplices, Memory}

-- want of memory is told as such
abbrev pub node_fault : NodeFault → EditFault
node_fault NodeFault.Memory = Memory
node_fault fault = Node fault

abbrev pub rope_fault : BalanceFault → EditFault
rope_fault BalanceFault.TooManyPieces = TooManyPieces
rope_fault (BalanceFault.Node fault) = node_fault fault

abbrev pub rows_fault : MakeFault → EditFault
rows_fault MakeFault.TooManyRows = TooManyRows
rows_fault MakeFault.Memory = Memory

-- a call of the store told as one of the session
abbrev pub told : {A : Type 0} → Result A NodeFault → Result A EditFault
told (Ok a) = Ok a
told (Err fault) = Err (node_fault fault)

abbrev pub edit_fault_code : EditFault → List ℕ
edit_fault_code NoRevision = codes "E1"
edit_fault_code NoSource = codes "E2"
edit_fault_code Range = codes "E3"
edit_fault_code EmptyText = codes "E4"
edit_fault_code TooManyRevisions = codes "E5"
edit_fault_code TooManyRows = codes "E6"
edit_fault_code (Node fault) = codes "E7(" ++ node_code fault ++ codes ")"
edit_fault_code TooManyPieces = codes "E8"
edit_fault_code SpliceCount = codes "E9"
edit_fault_code TooManySplices = codes "E10"
edit_fault_code Memory = codes "Memory"
