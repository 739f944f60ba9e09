use Rattle.function_leaf.specs.Coded.{coded_byte}
use Rattle.rope_node.specs.Denotes.{IsRope}
use Rattle.node_table.specs.Held.{table_of}
use Rattle.cord_jobs.proofs.searches.in_literals.Given as goal

abbrev pub invariant-loop-piece : goal.invariant-loop-piece
invariant-loop-piece l = IsRope (table_of coded_byte l.store) l.text
