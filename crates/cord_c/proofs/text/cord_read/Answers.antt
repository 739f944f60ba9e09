use Rattle.std.proofs.Common.{refl}
use Rattle.cord_types.specs.HeldTexts.{stated_as_held}
use Rattle.cord_c.specs.Opened.{opened_image}
use Rattle.cord_c.proofs.RunLaws.{bytes_read, bytes_unheld}
use Rattle.cord_c.proofs.text.cord_read.Goals as goal

pub returns-in-Ok-read_run : goal.returns-in-Ok-read_run
returns-in-Ok-read_run c =
    bytes_read c.args.image.now.now c.checked-image.result c.args.sources.now c.in-Ok.held c.args.revision c.args.place c.in-Ok-read_run.n c.root_of-root.result c.args.out.now c.read_run.new.buffer
    c.checked-image.ensures.accepted c.checked-image.ensures.value c.root_of-root.ensures.value c.in-Ok.ensures.value (c.in-Ok.ensures.ok.0 refl) c.in-Ok-read_run.ensures.count c.in-Ok-read_run.ensures.rest c.in-Ok-read_run.ensures.bytes

pub returns-in-Err : goal.returns-in-Err
returns-in-Err c =
    bytes_unheld (opened_image c.args.image.now) c.checked-image.result c.in-Ok.held c.read_run.new.sources (stated_as_held c.args.sources.now) c.args.revision c.args.place c.root_of-root.result c.args.out.now c.read_run.new.buffer c.in-Err.field-0
    c.checked-image.ensures.value c.root_of-root.ensures.value c.in-Ok.ensures.value c.in-Err.ensures.reads
