use Rattle.image_reader.specs.Spelling.{source_spelling}
use Rattle.session_image.specs.Gathering.{output}
use Rattle.session_image.proofs.Gathering.{PutFirst}
use Rattle.session_image.proofs.writing.write_sources.Given as goal

abbrev pub invariant-loop-s : goal.invariant-loop-s
invariant-loop-s g l = PutFirst source_spelling l.space.sources l.s (output g.W.Write.contents l.initial.writer) (output g.W.Write.contents l.writer)
