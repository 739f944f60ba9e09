use Rattle.std.proofs.Common.{refl}
use Rattle.function_leaf.specs.Coded.{coded_byte}
use Rattle.node_table.specs.Held.{table_of}
use Rattle.cord_types.specs.HeldTexts.{stated_as_held}
use Rattle.cord_store.proofs.AskedRopes.{byte_fetched, byte_unheld}
use Rattle.cord_store.proofs.reading.fetch_place.Goals as goal

pub returns-in-Ok-Some-default : goal.returns-in-Ok-Some-default
returns-in-Ok-Some-default c =
    let fetched = rw c.in-Ok-Some-default.field-0-0-is at c.in-Ok-Some-default.ensures.byte in
    let inside = rw c.in-Ok-Some-default.field-0-0-is at c.in-Ok-Some-default.ensures.inside in
    byte_fetched (table_of coded_byte c.args.store.now) c.in-Ok.held (stated_as_held c.args.sources.now) c.args.rope c.args.place c.args.byte.now c.in-Ok-Some-default.found c.in-Ok.ensures.value (c.in-Ok.ensures.ok.0 refl) fetched (inside.0 refl)

pub returns-in-Err : goal.returns-in-Err
returns-in-Err c =
    byte_unheld (table_of coded_byte c.args.store.now) c.in-Ok.held c.fetch.new.sources (stated_as_held c.args.sources.now) c.args.rope c.args.place c.args.byte.now c.in-Err.field-0 c.in-Ok.ensures.value (c.in-Ok.ensures.ok.0 refl) c.in-Err.ensures.reads
