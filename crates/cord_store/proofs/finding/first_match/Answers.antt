use Rattle.std.proofs.Common.{refl}
use Rattle.function_leaf.specs.Coded.{coded_byte}
use Rattle.node_table.specs.Held.{table_of}
use Rattle.cord_types.specs.HeldTexts.{stated_as_held}
use Rattle.cord_store.proofs.AskedRopes.{pattern_found, pattern_refused}
use Rattle.cord_store.proofs.finding.first_match.Goals as goal

pub returns-in-Ok-find : goal.returns-in-Ok-find
returns-in-Ok-find c =
    pattern_found (table_of coded_byte c.args.store.now) c.in-Ok.held (stated_as_held c.args.sources.now) c.args.rope c.args.pattern.now c.args.from c.args.place.now c.place_number.result c.in-Ok-find.found
    c.in-Ok.ensures.value (c.in-Ok.ensures.ok.0 refl) (λ long. let e = c.in-Ok-find.ensures.too_long.1 long in absurd cc) c.place_number.ensures c.in-Ok-find.ensures.found

pub returns-in-Err : goal.returns-in-Err
returns-in-Err c =
    rw c.find_fault_number.ensures (pattern_refused (table_of coded_byte c.args.store.now) c.in-Ok.held c.find.new.sources (stated_as_held c.args.sources.now) c.args.rope c.args.pattern.now c.args.from c.args.place.now c.in-Err.fault
    c.in-Ok.ensures.value (c.in-Ok.ensures.ok.0 refl) (λ e. c.in-Err.ensures.too_long.0 cc, λ long. let e = c.in-Err.ensures.too_long.1 long in cc) (λ e is. rw is at c.in-Err.ensures.reads))
