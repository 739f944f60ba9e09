use Rattle.std.proofs.Common.{take}
use Rattle.std.specs.List.{AllByRecursion}
use Rattle.image_reader.specs.Spelling.{splice_spelling}
use Rattle.image_reader.specs.Value.{FitsSplice}
use Rattle.session_image.specs.Gathering.{output}
use Rattle.session_image.proofs.Gathering.{PutFirst}
use Rattle.session_image.proofs.revisions.write_each_splice.Given as goal

abbrev pub invariant-loop-splice : goal.invariant-loop-splice
invariant-loop-splice g l = PutFirst splice_spelling l.splices l.splice-index (output g.W.Write.contents l.initial.writer) (output g.W.Write.contents l.writer) × AllByRecursion FitsSplice (take l.splice-index l.splices)
