use Rattle.std.proofs.Common.{◌≡◌, length}
use Rattle.std.specs.List.{range_with_len}
use Rattle.image_reader.specs.Accepted.{splices_before}
use Rattle.session_image.proofs.Sections.{WroteFirst}
use Rattle.script_tools.specs.Logged.{revision_line}
use Rattle.script_tools.proofs.logging.write_log.Given as goal

abbrev pub invariant-loop-k : goal.invariant-loop-k
invariant-loop-k g l = (l.first ≡ splices_before l.image l.k) × WroteFirst (revision_line l.texts l.image) (range_with_len 0 (length l.image.revisions)) l.k (g.W.Write.contents l.initial.writer) (g.W.Write.contents l.writer)
