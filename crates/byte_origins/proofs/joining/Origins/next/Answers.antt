use Rattle.std.proofs.Common.{arith}
use Rattle.byte_origins.specs.Stretches.{found_and_left}
use Rattle.byte_origins.proofs.JoinedRuns.{next_found, run_fits}
use Rattle.byte_origins.proofs.joining.Origins.next.Goals as goal

pub lengthen-found-requires-clause-room : goal.lengthen-found-requires-clause-room
lengthen-found-requires-clause-room c =
    let old = found_and_left c.self.inside.ahead c.self.inside.runs.left in
    let next = next_found _ old c.first_of.new.runs.left c.in_ok-first.field-0 c.in-Some.first c.in-Some.is c.in_ok-first.ensures.next in
    omega (arith, run_fits old c.first_of.new.runs.left c.in-Some.first next.1 c.self.invariant.1)
