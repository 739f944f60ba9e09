use Rattle.std.proofs.Common.{arith, drop, length, take, ◌-◌, ◌≡◌, List, ℕ, length-take-le, length-drop}
use Rattle.lazy_file.proofs.DeviceReads.{filled_more}
use Rattle.lazy_file.proofs.filling.fill.Goals as goal

pub loop-done-preserved : goal.loop-done-preserved
loop-done-preserved g c =
    let n = length c.loop-done.buffer - c.loop-done.done in
    let rest : List ℕ = take n (drop c.loop-done.done c.loop-done.buffer) in
    let was : length rest ≡ n = length-take-le n (drop c.loop-done.done c.loop-done.buffer) (omega (arith, length-drop c.loop-done.done c.loop-done.buffer)) in
    let same : length c.read_at.new.buffer ≡ n = omega (arith, was, c.read_at.auto.buffer) in
    filled_more (g.D.Device.reading c.args.device.now) (g.D.Device.reading c.loop-done.device) (g.D.Device.reading c.read_at.new.self) c.args.off c.loop-done.done c.in-Ok.count c.args.buffer.now c.loop-done.buffer rest c.read_at.new.buffer c.loop-done.invariant (omega arith) same was (rw c.in-Ok.is at c.read_at.ensures)
