use Rattle.std.proofs.Common.{length, ◌-◌}
use Rattle.lazy_file.proofs.DeviceReads.{Filled}
use Rattle.lazy_file.proofs.filling.fill.Given as goal

abbrev pub invariant-loop-done : goal.invariant-loop-done
invariant-loop-done g l = Filled (g.D.Device.reading l.fn.device) (g.D.Device.reading l.device) l.off l.done l.fn.buffer l.buffer

abbrev pub decreases-loop-done : goal.decreases-loop-done
decreases-loop-done g l = length l.initial.buffer - l.done
