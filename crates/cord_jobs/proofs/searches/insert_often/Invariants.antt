use Rattle.function_leaf.specs.Coded.{coded_byte}
use Rattle.rope_node.specs.Denotes.{IsRope}
use Rattle.node_table.specs.Held.{table_of}
use Rattle.cord_jobs.proofs.searches.insert_often.Given as goal

abbrev pub invariant-loop : goal.invariant-loop
invariant-loop l = IsRope (table_of coded_byte l.store) l.text
