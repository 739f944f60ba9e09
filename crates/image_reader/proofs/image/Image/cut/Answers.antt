use Rattle.std.proofs.Common.{arith}
use Rattle.image_reader.proofs.WholeImages.{sections_image}
use Rattle.image_reader.proofs.image.Image.cut.Goals as goal

pub invariant_of-result : goal.invariant_of-result
invariant_of-result c =
    let is = sections_image c.args.bytes.now c.args.header.now c.sections_of-sections.result (λ i. omega (arith, c.type_inv.bytes i)) c.requires.numbers c.requires.read c.sections_of-sections.ensures.sections c.sections_of-sections.ensures.room in
    rw c.bytes_before.ensures is
