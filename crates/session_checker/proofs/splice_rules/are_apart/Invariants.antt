use Rattle.std.proofs.Common.{◌≡◌, ◌+◌, ◌-◌, ◌∷◌, take, drop}
use Rattle.command_parts.specs.Commands.{are_apart}
use Rattle.session_checker.proofs.splice_rules.are_apart.Given as goal

abbrev pub invariant-loop-i : goal.invariant-loop-i
invariant-loop-i g l =
    are_apart (take l.count (drop l.first (g.P.Splices.splices l.splices)))
    ≡ are_apart (l.before ∷ take (l.count - l.i) (drop (l.first + l.i) (g.P.Splices.splices l.splices)))
