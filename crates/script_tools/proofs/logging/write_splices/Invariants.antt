use Rattle.std.proofs.Common.{take, drop}
use Rattle.session_image.proofs.Sections.{WroteFirst}
use Rattle.script_tools.proofs.ShownTexts.{splice_shown}
use Rattle.script_tools.proofs.logging.write_splices.Given as goal

abbrev pub invariant-loop-i : goal.invariant-loop-i
invariant-loop-i g l = WroteFirst (splice_shown l.texts l.image.pool) (take l.count (drop l.first l.image.splices)) l.i (g.W.Write.contents l.initial.writer) (g.W.Write.contents l.writer)
