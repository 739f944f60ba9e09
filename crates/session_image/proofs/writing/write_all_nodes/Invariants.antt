use Rattle.image_reader.specs.Spelling.{node_spelling}
use Rattle.session_image.specs.Gathering.{output}
use Rattle.session_image.specs.Written.{HoldsFit, nodes_of}
use Rattle.session_image.proofs.Gathering.{PutFirst}
use Rattle.session_image.proofs.writing.write_all_nodes.Given as goal

abbrev pub invariant-loop-id : goal.invariant-loop-id
invariant-loop-id g l = PutFirst node_spelling (nodes_of l.space) l.id (output g.W.Write.contents l.initial.writer) (output g.W.Write.contents l.writer) × HoldsFit l.space l.id
