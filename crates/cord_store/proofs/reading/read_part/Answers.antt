use Rattle.std.proofs.Common.{refl}
use Rattle.function_leaf.specs.Coded.{coded_byte}
use Rattle.node_table.specs.Held.{table_of}
use Rattle.cord_types.specs.HeldTexts.{stated_as_held}
use Rattle.cord_store.proofs.AskedRopes.{part_read, part_unheld}
use Rattle.cord_store.proofs.reading.read_part.Goals as goal

pub returns-in-Ok-read_run : goal.returns-in-Ok-read_run
returns-in-Ok-read_run c =
    part_read (table_of coded_byte c.args.store.now) c.in-Ok.held (stated_as_held c.args.sources.now) c.args.rope c.args.place c.in-Ok-read_run.n c.args.out.now c.read_run.new.buffer
    c.in-Ok.ensures.value (c.in-Ok.ensures.ok.0 refl) c.in-Ok-read_run.ensures.count c.in-Ok-read_run.ensures.rest c.in-Ok-read_run.ensures.bytes

pub returns-in-Err : goal.returns-in-Err
returns-in-Err c =
    part_unheld (table_of coded_byte c.args.store.now) c.in-Ok.held c.read_run.new.sources (stated_as_held c.args.sources.now) c.args.rope c.args.place c.args.out.now c.read_run.new.buffer c.in-Err.field-0
    c.in-Ok.ensures.value (c.in-Ok.ensures.ok.0 refl) c.in-Err.ensures.reads
