use Rattle.function_leaf.specs.Coded.{coded_byte}
use Rattle.rope_node.specs.Denotes.{IsRope}
use Rattle.rope_node.specs.Extends.{Extends}
use Rattle.node_table.specs.Held.{table_of}
use Rattle.cord_bench.proofs.calls.chain.Given as goal

abbrev pub invariant-loop : goal.invariant-loop
invariant-loop l = IsRope (table_of coded_byte l.store) l.text × Extends (table_of coded_byte l.initial.store) (table_of coded_byte l.store)
