use Rattle.std.proofs.Common.{length, ap}
use Rattle.std.specs.Prelude.{slice_index}
use Rattle.std.proofs.Math.Nat.{add-mod_right}
use Rattle.function_leaf.proofs.coded.CodedLeafFn.period.Goals as goal

pub returns-in-Cycle : goal.returns-in-Cycle
returns-in-Cycle c =
    let pattern = c.in-Cycle.pattern in
    rw (c.in-Cycle.is, c.as_slice.ensures.value) (record {
      some = c.as_slice.ensures.length.0;
      same = λ i. ap (slice_index pattern) (add-mod_right i (length pattern));
    })
