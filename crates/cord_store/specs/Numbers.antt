-- Ropes, places, orders and refusals as numbers.
use Rattle.std.specs.Prelude.{ℕ, ◌+◌, ◌-◌, ◌^◌, ◌==◌, nat_le, if◌then◌else◌, length, Option, Some, None, Result, Ok, Err}
use Rattle.std.specs.declared.cmp.Ordering.{Ordering}
use Rattle.std.specs.declared.cmp.Ordering.TheVariants.{Less, Equal, Greater}
use Rattle.function_leaf.specs.declared.coded.Coded.{Coded}
use Rattle.rope_node.specs.declared.node.NodeId.{NodeId}
use Rattle.node_table.specs.declared.fault.NodeFault.{NodeFault}
use Rattle.node_table.specs.declared.fault.NodeFault.TheVariants.{TooLong, TooDeep, TableFull, PoolFull, BadSpan, TooManySources, Memory}
use Rattle.node_table.specs.Held.{Held}
use Rattle.rebalance.specs.declared.fault.BalanceFault.{BalanceFault}
use Rattle.rebalance.specs.declared.fault.BalanceFault.TheVariants.{TooManyPieces, Node}
use Rattle.cord_search.specs.declared.fault.FindFault.{FindFault}
use Rattle.cord_search.specs.declared.fault.FindFault.TheVariants as find
use Rattle.cord_store.specs.declared.codes.TheConstants.{BAD_SPAN, DONE, LONG_PATTERN, MANY_PIECES, MANY_SOURCES, MEMORY, POOL_FULL, TABLE_FULL, TOO_DEEP, TOO_LONG, UNHELD}

-- the number of a rope: nil is 0, and a node's is one above its own
abbrev pub rope_number : Option NodeId → ℕ
rope_number None = 0
rope_number (Some id) = id.0 + 1

-- the rope of a number, where the store has it
abbrev pub rope_told : Held Coded → ℕ → Option (Option NodeId)
rope_told h x =
    if x == 0 then Some None else if nat_le x (length h.nodes) then Some (Some (record { 0 = x - 1 })) else None

-- a place as a number: none is the largest
abbrev pub place_number : Option ℕ → ℕ
place_number None = 2 ^ 64 - 1
place_number (Some place) = place

-- an order as a number
abbrev pub order_number : Ordering → ℕ
order_number Less = 0
order_number Equal = 1
order_number Greater = 2

-- N1 to N6
abbrev pub node_number : NodeFault → ℕ
node_number TooLong = TOO_LONG
node_number TooDeep = TOO_DEEP
node_number TableFull = TABLE_FULL
node_number PoolFull = POOL_FULL
node_number BadSpan = BAD_SPAN
node_number TooManySources = MANY_SOURCES
node_number Memory = MEMORY

-- a refusal of a call that balances
abbrev pub rope_fault_number : BalanceFault → ℕ
rope_fault_number TooManyPieces = MANY_PIECES
rope_fault_number (Node fault) = node_number fault

-- why a search has no answer
abbrev pub find_fault_number : FindFault → ℕ
find_fault_number find.PatternTooLong = LONG_PATTERN
find_fault_number (find.Source fault) = UNHELD
find_fault_number find.Memory = MEMORY

-- what is answered for a rope that was made, or not, and what stands then where its number is written
abbrev pub rope_outcome : Result (Option NodeId) BalanceFault → ℕ
rope_outcome (Ok rope) = DONE
rope_outcome (Err fault) = rope_fault_number fault

abbrev pub rope_after : Result (Option NodeId) BalanceFault → ℕ → ℕ
rope_after (Ok rope) before = rope_number rope
rope_after (Err fault) before = before

-- the same of a call that only adds
abbrev pub node_outcome : Result (Option NodeId) NodeFault → ℕ
node_outcome (Ok rope) = DONE
node_outcome (Err fault) = node_number fault

abbrev pub node_after : Result (Option NodeId) NodeFault → ℕ → ℕ
node_after (Ok rope) before = rope_number rope
node_after (Err fault) before = before

-- the same of a source
abbrev pub source_outcome : Result ℕ NodeFault → ℕ
source_outcome (Ok s) = DONE
source_outcome (Err fault) = node_number fault

abbrev pub source_after : Result ℕ NodeFault → ℕ → ℕ
source_after (Ok s) before = s
source_after (Err fault) before = before
