use Rattle.std.proofs.Common.{sym, ap, ◌∙◌}
use Rattle.byte_origins.specs.Histories.{splices_together}
use Rattle.byte_origins.proofs.starts.all_splices.Goals as goal

pub returns : goal.returns
returns c = c.splice_count.ensures ∙ sym c.node_count-count.ensures.image.splices_counted ∙ ap splices_together c.image-image.ensures
