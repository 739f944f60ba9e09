use Rattle.std.proofs.Common.{◌≡◌}
use Rattle.std.specs.List.{sum_by}
use Rattle.cord_bench.proofs.replacing.one_byte_changes.Given as goal

abbrev pub invariant-loop-k : goal.invariant-loop-k
invariant-loop-k l = sum_by (λ change. change.n) l.changes.items ≡ l.k
