use Rattle.std.proofs.Common.{◌-◌, length}
use Rattle.session_image.specs.Gathering.{output}
use Rattle.session_image.proofs.PoolBytes.{WroteBytes}
use Rattle.session_image.proofs.writing.write_pool.Given as goal

abbrev pub invariant-loop-done : goal.invariant-loop-done
invariant-loop-done g l = WroteBytes l.space.pool.bytes l.done (output g.W.Write.contents l.initial.writer) (output g.W.Write.contents l.writer)

abbrev pub decreases-loop-done : goal.decreases-loop-done
decreases-loop-done g l = length l.space.pool.bytes - l.done
