use Rattle.function_leaf.specs.Coded.{coded_byte}
use Rattle.node_table.specs.Held.{table_of}
use Rattle.rope_node.proofs.Ropes.{rope_kept}
use Rattle.cord_jobs.proofs.searches.insert.Goals as goal

pub substr_any-requires-2 : goal.substr_any-requires-2
substr_any-requires-2 c =
    let first = table_of coded_byte c.substr_any.new.store in
    let there = rope_kept (table_of coded_byte c.args.store.now) first c.substr_any.ensures.any.gives.grows.kept c.args.text c.requires in
    rope_kept first (table_of coded_byte c.append_any.new.store) c.append_any.ensures.any.any.gives.grows.kept c.args.text there

pub cat_any-requires-clause-left : goal.cat_any-requires-clause-left
cat_any-requires-clause-left c =
    rope_kept (table_of coded_byte c.append_any.new.store) (table_of coded_byte c.substr_any-2.new.store) c.substr_any-2.ensures.any.gives.grows.kept c.in_ok-longer.longer c.in_ok-longer.ensures.any.any.gives.is_rope
