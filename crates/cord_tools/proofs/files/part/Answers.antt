use Rattle.std.proofs.Common.{arith}
use Rattle.function_leaf.specs.Coded.{coded_byte}
use Rattle.node_table.specs.Held.{table_of}
use Rattle.cord_tools.proofs.Spans.{part_made, part_only_memory, pool_after}
use Rattle.cord_tools.proofs.files.part.Goals as goal

pub only_memory-requires : goal.only_memory-requires
only_memory-requires c =
    let h = c.args.store.now in
    part_only_memory (table_of coded_byte h) h _ c.min-start.result c.min.result c.in-Err.fault c.in-Err.ensures.refuses
    (omega (arith, c.requires.there, c.from-s.ensures)) (omega (arith, c.min-start.ensures, c.min.ensures, c.source_len-len.ensures.value)) c.requires.few c.requires.empty

pub returns-in-Ok-clause-ok : goal.returns-in-Ok-clause-ok
returns-in-Ok-clause-ok c =
    let made = c.in-Ok.ensures.makes in
    part_made coded_byte c.args.store.now c.from_source.new.self c.args.s c.from-s.result c.args.start c.args.count c.source_len-len.result c.min-start.result c.min.result c.in-Ok.rope
    c.from-s.ensures c.source_len-len.ensures.value c.min-start.ensures c.min.ensures made.table made.rope

pub returns-in-Ok-clause-pool : goal.returns-in-Ok-clause-pool
returns-in-Ok-clause-pool c = pool_after coded_byte c.args.store.now c.from_source.new.self _ c.min-start.result c.min.result c.in-Ok.ensures.makes.table
