use Rattle.function_leaf.specs.Coded.{coded_byte}
use Rattle.rope_node.specs.Denotes.{IsRope}
use Rattle.node_table.specs.Held.{table_of}
use Rattle.cord_bench.proofs.balancing.type_bursts.Given as goal

abbrev pub invariant-loop-k : goal.invariant-loop-k
invariant-loop-k l = IsRope (table_of coded_byte l.store) l.text
