use Rattle.std.proofs.Common.{sym, ap, ◌∙◌}
use Rattle.image_reader.specs.Looks.{looks_bound}
use Rattle.cord_types.proofs.CheckedImages.{image_again}
use Rattle.cord_c.proofs.check.cord_looks_bound.Goals as goal

pub returns-in-Ok-clause-value : goal.returns-in-Ok-clause-value
returns-in-Ok-clause-value c = λ _.
    c.looks_bound.ensures ∙ ap looks_bound (sym (image_again c.args.image.now c.in-Ok.read c.in-Ok.ensures.found.0 c.in-Ok.ensures.found.1))
