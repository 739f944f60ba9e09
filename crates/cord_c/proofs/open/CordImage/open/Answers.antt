use Rattle.cord_types.specs.HeldTexts.{stated_as_held}
use Rattle.cord_c.proofs.OpenedImages.{opens}
use Rattle.cord_c.proofs.open.CordImage.open.Goals as goal

pub invariant_of-result : goal.invariant_of-result
invariant_of-result c = opens c.args.image.now (stated_as_held c.args.sources.now) (c.cord_check.ensures.faithful c.if-cord_check.true)
