use Rattle.session_image.specs.Gathering.{output}
use Rattle.session_image.specs.Written.{image_of}
use Rattle.image_reader.specs.Spelling.{spelling}
use Rattle.session_image.proofs.Gathering.{all_sent}
use Rattle.session_image.proofs.writing.write_gathered.Goals as goal

pub returns-clause-written : goal.returns-clause-written
returns-clause-written g c =
    all_sent (output g.W.Write.contents c.args.writer.now) (output g.W.Write.contents c.write_sections.new.writer) (output g.W.Write.contents c.flush.new.self) (spelling (image_of c.args.session.now)) c.flush.result c.requires.empty c.in_ok-write_sections.ensures.written.ok c.flush.ensures
