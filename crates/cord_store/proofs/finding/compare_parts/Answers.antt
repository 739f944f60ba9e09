use Rattle.std.proofs.Common.{refl}
use Rattle.function_leaf.specs.Coded.{coded_byte}
use Rattle.node_table.specs.Held.{table_of}
use Rattle.cord_types.specs.HeldTexts.{stated_as_held}
use Rattle.cord_store.proofs.AskedRopes.{parts_not_read, parts_ordered}
use Rattle.cord_store.proofs.finding.compare_parts.Goals as goal

pub returns-in-Ok-ncmp : goal.returns-in-Ok-ncmp
returns-in-Ok-ncmp c =
    parts_ordered (table_of coded_byte c.args.store.now) c.in-Ok.held (stated_as_held c.args.sources.now) c.args.left c.args.i c.args.right c.args.j c.args.n c.args.order.now c.order_number.result c.in-Ok-ncmp.found
    c.in-Ok.ensures.value (c.in-Ok.ensures.ok.0 refl) c.order_number.ensures c.in-Ok-ncmp.ensures.order

pub returns-in-Err : goal.returns-in-Err
returns-in-Err c =
    parts_not_read (table_of coded_byte c.args.store.now) c.in-Ok.held c.ncmp.new.sources (stated_as_held c.args.sources.now) c.args.left c.args.i c.args.right c.args.j c.args.n c.args.order.now c.in-Err.field-0 c.in-Ok.ensures.value (c.in-Ok.ensures.ok.0 refl) c.in-Err.ensures.reads
