use Rattle.function_leaf.specs.Coded.{coded_byte}
use Rattle.node_table.specs.Held.{table_of}
use Rattle.rope_node.proofs.Ropes.{extends_itself, extends_through, rope_kept}
use Rattle.cord_bench.proofs.calls.chain.Goals as goal

pub loop-init : goal.loop-init
loop-init c = (c.requires.leaf, extends_itself (table_of coded_byte c.args.store.now))

pub cat-requires-clause-right : goal.cat-requires-clause-right
cat-requires-clause-right c = rope_kept (table_of coded_byte c.args.store.now) (table_of coded_byte c.loop.store) c.loop.invariant.1 c.args.byte c.requires.byte

pub loop-preserved : goal.loop-preserved
loop-preserved c = (c.in_ok-text.ensures.makes.is_rope, extends_through (table_of coded_byte c.args.store.now) (table_of coded_byte c.loop.store) (table_of coded_byte c.cat.new.self) c.loop.invariant.1 c.cat.ensures.makes.kept)
