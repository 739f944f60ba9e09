use Rattle.std.proofs.Common.{refl}
use Rattle.cord_c.proofs.RunLaws.{byte_fetched}
use Rattle.cord_c.proofs.text.cord_fetch.Goals as goal

pub returns-in-Ok-Some-default : goal.returns-in-Ok-Some-default
returns-in-Ok-Some-default c =
    let fetched = rw c.in-Ok-Some-default.field-0-0-is at c.in-Ok-Some-default.ensures.byte in
    let inside = rw c.in-Ok-Some-default.field-0-0-is at c.in-Ok-Some-default.ensures.inside in
    byte_fetched c.args.image.now.now c.checked.result c.args.sources.now c.in-Ok.held c.args.revision c.args.place c.args.byte.now c.in-Ok-Some-default.found
    c.checked.ensures.accepted c.checked.ensures.value c.in-Ok.ensures.value (c.in-Ok.ensures.ok.0 refl) fetched (inside.0 refl)
