use Rattle.std.proofs.Common.{◌≡◌, take, drop}
use Rattle.saved_session.proofs.taking.splices_from.Given as goal

abbrev pub invariant-loop-j : goal.invariant-loop-j
invariant-loop-j g l = l.named.items ≡ take l.j (drop l.first (g.P.Splices.splices l.splices))
