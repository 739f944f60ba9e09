use Rattle.std.proofs.Common.{◌≡◌, ◌≤◌, ◌-◌, length, take, drop}
use Rattle.span_certificate.proofs.bytes.fill_pool.Given as goal

abbrev pub invariant-loop-done : goal.invariant-loop-done
invariant-loop-done g l = record {
  inside : l.done ≤ length l.initial.buffer;
  filled : take l.done l.buffer ≡ take l.done (drop l.a (g.S.CountedSpace.table l.space).pool);
}

abbrev pub decreases-loop-done : goal.decreases-loop-done
decreases-loop-done g l = length l.initial.buffer - l.done
