use Rattle.function_leaf.specs.Coded.{coded_byte}
use Rattle.node_table.specs.Held.{table_of}
use Rattle.rope_node.proofs.Ropes.{extends_itself, extends_through, rope_kept}
use Rattle.cord_bench.proofs.balancing.join_leaves.Goals as goal

pub loop-init : goal.loop-init
loop-init c = (_, extends_itself (table_of coded_byte c.args.store.now))

pub cat_any-requires-clause-right : goal.cat_any-requires-clause-right
cat_any-requires-clause-right c = rope_kept (table_of coded_byte c.args.store.now) (table_of coded_byte c.loop.store) c.loop.invariant.1 c.args.leaf c.requires

pub loop-preserved : goal.loop-preserved
loop-preserved c = (c.in_ok-text.ensures.gives.is_rope, extends_through (table_of coded_byte c.args.store.now) (table_of coded_byte c.loop.store) (table_of coded_byte c.cat_any.new.store) c.loop.invariant.1 c.cat_any.ensures.gives.grows.kept)
