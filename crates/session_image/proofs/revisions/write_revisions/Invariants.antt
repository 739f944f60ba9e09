use Rattle.std.proofs.Common.{map}
use Rattle.image_reader.specs.Spelling.{revision_spelling}
use Rattle.session_image.specs.Gathering.{output}
use Rattle.session_image.specs.Written.{EditsFit, recorded_revision}
use Rattle.session_image.proofs.Gathering.{PutFirst}
use Rattle.session_image.proofs.revisions.write_revisions.Given as goal

abbrev pub invariant-loop-k : goal.invariant-loop-k
invariant-loop-k g l = PutFirst revision_spelling (map recorded_revision l.session.revisions) l.k (output g.W.Write.contents l.initial.writer) (output g.W.Write.contents l.writer) × EditsFit l.session.revisions l.k
