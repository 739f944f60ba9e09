-- The log of an accepted image, applied over sources of its lengths.
use Rattle.std.proofs.Common.{◌≡◌, ℕ, ◌<◌, ◌≤◌, List, length, get_or, Option, Err, refl, arith}
use Rattle.std.specs.List.{AllByRecursion}
use Rattle.std.proofs.lemmas.Option.{slice_get-get_or}
use Rattle.rope_node.specs.declared.limits.TheConstants.{TEXT_LIMIT}
use Rattle.node_table.specs.declared.fault.NodeFault.TheVariants as NodeFault
use Rattle.edit_commands.specs.declared.fault.EditFault.{EditFault}
use Rattle.edit_commands.specs.declared.fault.EditFault.TheVariants.{NoRevision, NoSource, Range, EmptyText, TooManyRevisions, TooManyRows, Node, TooManyPieces, SpliceCount, TooManySplices, Memory}
use Rattle.edit_script.specs.declared.fault.Stopped.{Stopped}
use Rattle.image_reader.specs.Value.{FitsSource, ImageValue, IsImage}
use Rattle.image_reader.proofs.Cutting.{all_at}
use Rattle.script_tools.specs.declared.fault.ApplyFault.{ApplyFault}
use Rattle.script_tools.specs.declared.shown.LogTexts.TheVariants.{Whole}
use Rattle.script_tools.specs.Applied.{AppliesScript, AreRefused, IsStopped}
use Rattle.script_tools.specs.Logged.{log_of}
use Rattle.script_tools.specs.Refused.{IsLimit, StopsAtLimit}

none_long : (lens : List ℕ) → AllByRecursion FitsSource lens → (k : ℕ) → k < length lens → TEXT_LIMIT ≤ get_or lens k 0 → ⊥
none_long lens fit k lt long = omega (arith, all_at FitsSource lens k (get_or lens k 0) fit (slice_get-get_or lens k 0 lt), long)

-- those of an image are not refused
source_fits : (w : ImageValue) → IsImage w → (fault : EditFault) → AreRefused w.sources fault → fault ≡ Memory
source_fits w image Memory refused = refl
source_fits w image (Node NodeFault.TooManySources) refused = absurd (omega (arith, refused.there, refused.is, image.few_sources))
source_fits w image (Node NodeFault.TooLong) refused = absurd (none_long w.sources image.sources refused.number refused.there refused.is.1)
source_fits w image (Node NodeFault.TooDeep) refused = absurd refused.is
source_fits w image (Node NodeFault.TableFull) refused = absurd refused.is
source_fits w image (Node NodeFault.PoolFull) refused = absurd refused.is
source_fits w image (Node NodeFault.BadSpan) refused = absurd refused.is
source_fits w image (Node NodeFault.Memory) refused = absurd refused.is
source_fits w image NoRevision refused = absurd refused.is
source_fits w image NoSource refused = absurd refused.is
source_fits w image Range refused = absurd refused.is
source_fits w image EmptyText refused = absurd refused.is
source_fits w image TooManyRevisions refused = absurd refused.is
source_fits w image TooManyRows refused = absurd refused.is
source_fits w image TooManyPieces refused = absurd refused.is
source_fits w image SpliceCount refused = absurd refused.is
source_fits w image TooManySplices refused = absurd refused.is

pub log_applies : (w : ImageValue) → IsImage w → (before after : Option (List ℕ)) (fault : ApplyFault)
    → ((at : Stopped) → IsStopped w.sources (log_of Whole w) at → StopsAtLimit w at.line at.why)
    → AppliesScript w.sources (log_of Whole w) before after (Err fault) → IsLimit w fault
log_applies w image before after (ApplyFault.Stop at) stops applies = stops at applies.1
log_applies w image before after (ApplyFault.Source fault) stops applies = source_fits w image fault applies.1
log_applies w image before after ApplyFault.Write stops applies = tt
