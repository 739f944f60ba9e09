use Rattle.std.proofs.Common.{◌≡◌, ◌+◌, ◌-◌, ◌^◌, ◌≤◌, take, drop}
use Rattle.std.specs.Prelude.{min}
use Rattle.std.specs.List.{sum_by}
use Rattle.session_checker.proofs.splice_rules.bytes_spliced.Given as goal

abbrev pub invariant-loop-i : goal.invariant-loop-i
invariant-loop-i g l = record {
  small : (l.taken ≤ 2 ^ 64 - 1) × (l.put ≤ 2 ^ 64 - 1);
  taken : min (sum_by (λ s. s.m) (take l.count (drop l.first (g.P.Splices.splices l.splices)))) (2 ^ 64 - 1)
      ≡ min (l.taken + sum_by (λ s. s.m) (take (l.count - l.i) (drop (l.first + l.i) (g.P.Splices.splices l.splices)))) (2 ^ 64 - 1);
  put : min (sum_by (λ s. s.n) (take l.count (drop l.first (g.P.Splices.splices l.splices)))) (2 ^ 64 - 1)
      ≡ min (l.put + sum_by (λ s. s.n) (take (l.count - l.i) (drop (l.first + l.i) (g.P.Splices.splices l.splices)))) (2 ^ 64 - 1);
}
