use Rattle.std.proofs.Common.{append_assoc}
use Rattle.text_lines.proofs.frame.cursor.Goals as goal

pub returns : goal.returns
returns c = simp append_assoc (c.format.ensures.ok)
