use Rattle.std.proofs.Common.{take}
use Rattle.std.specs.List.{flat_map, AllByRecursion}
use Rattle.image_reader.specs.Spelling.{row_spelling}
use Rattle.image_reader.specs.Value.{FitsRow}
use Rattle.session_image.specs.Gathering.{output}
use Rattle.session_image.specs.Written.{rows_in}
use Rattle.session_image.proofs.Gathering.{PutFirst}
use Rattle.session_image.proofs.revisions.write_all_rows.Given as goal

abbrev pub invariant-loop-k : goal.invariant-loop-k
invariant-loop-k g l = PutFirst (λ r. flat_map row_spelling r.rows.items) l.session.revisions l.k (output g.W.Write.contents l.initial.writer) (output g.W.Write.contents l.writer) × AllByRecursion FitsRow (rows_in (take l.k l.session.revisions))
