use Rattle.std.proofs.Common.{take}
use Rattle.std.specs.List.{AllByRecursion}
use Rattle.image_reader.specs.Spelling.{row_spelling}
use Rattle.image_reader.specs.Value.{FitsRow}
use Rattle.session_image.specs.Gathering.{output}
use Rattle.session_image.proofs.Gathering.{PutFirst}
use Rattle.session_image.proofs.revisions.write_each_row.Given as goal

abbrev pub invariant-loop-row : goal.invariant-loop-row
invariant-loop-row g l = PutFirst row_spelling l.rows l.row-index (output g.W.Write.contents l.initial.writer) (output g.W.Write.contents l.writer) × AllByRecursion FitsRow (take l.row-index l.rows)
