use Rattle.std.proofs.Common.{◌≡◌, ◌+◌, ◌-◌, take, drop}
use Rattle.std.specs.List.{list_all}
use Rattle.command_parts.specs.Commands.{is_splice}
use Rattle.session_checker.proofs.splice_rules.are_splices.Given as goal

abbrev pub invariant-loop-i : goal.invariant-loop-i
invariant-loop-i g l =
    list_all (is_splice l.pool_len l.len) (take l.count (drop l.first (g.P.Splices.splices l.splices)))
    ≡ list_all (is_splice l.pool_len l.len) (take (l.count - l.i) (drop (l.first + l.i) (g.P.Splices.splices l.splices)))
