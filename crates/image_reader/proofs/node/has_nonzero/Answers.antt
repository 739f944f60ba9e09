use Rattle.std.proofs.Common.{arith}
use Rattle.std.proofs.lemmas.Grind.{common_steps}
use Rattle.image_reader.proofs.Payloads.{any_nonzero_after}
use Rattle.image_reader.proofs.node.has_nonzero.Goals as goal

pub returns-then-byte-ne0 : goal.returns-then-byte-ne0
returns-then-byte-ne0 c = grind (arith, common_steps, any_nonzero_after)
