use Rattle.std.proofs.Common.{take}
use Rattle.std.specs.List.{flat_map, AllByRecursion}
use Rattle.image_reader.specs.Spelling.{splice_spelling}
use Rattle.image_reader.specs.Value.{FitsSplice}
use Rattle.session_image.specs.Gathering.{output}
use Rattle.session_image.specs.Written.{splices_in}
use Rattle.session_image.proofs.Gathering.{PutFirst}
use Rattle.session_image.proofs.revisions.write_all_splices.Given as goal

abbrev pub invariant-loop-k : goal.invariant-loop-k
invariant-loop-k g l = PutFirst (λ r. flat_map splice_spelling r.splices.items) l.session.revisions l.k (output g.W.Write.contents l.initial.writer) (output g.W.Write.contents l.writer) × AllByRecursion FitsSplice (splices_in (take l.k l.session.revisions))
