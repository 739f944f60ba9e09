use Rattle.std.proofs.Common.{refl}
use Rattle.function_leaf.specs.Coded.{coded_byte}
use Rattle.node_table.specs.Held.{table_of}
use Rattle.cord_types.specs.HeldTexts.{stated_as_held}
use Rattle.cord_store.proofs.AskedRopes.{byte_found, byte_not_read}
use Rattle.cord_store.proofs.finding.first_byte.Goals as goal

pub returns-in-Ok-chr : goal.returns-in-Ok-chr
returns-in-Ok-chr c =
    byte_found (table_of coded_byte c.args.store.now) c.in-Ok.held (stated_as_held c.args.sources.now) c.args.rope c.args.byte c.args.from c.args.place.now c.place_number.result c.in-Ok-chr.found
    c.in-Ok.ensures.value (c.in-Ok.ensures.ok.0 refl) c.place_number.ensures c.in-Ok-chr.ensures.found

pub returns-in-Err : goal.returns-in-Err
returns-in-Err c =
    byte_not_read (table_of coded_byte c.args.store.now) c.in-Ok.held c.chr.new.sources (stated_as_held c.args.sources.now) c.args.rope c.args.byte c.args.from c.args.place.now c.in-Err.field-0 c.in-Ok.ensures.value (c.in-Ok.ensures.ok.0 refl) c.in-Err.ensures.reads
