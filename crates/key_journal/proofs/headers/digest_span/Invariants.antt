use Rattle.std.proofs.Common.{◌≡◌, ◌-◌, ◌≤◌, IfSome}
use Rattle.lazy_file.specs.SourceTexts.{text_at}
use Rattle.key_journal.specs.Headers.{TakesIn}
use Rattle.key_journal.proofs.headers.digest_span.Given as goal

abbrev pub invariant-loop-done : goal.invariant-loop-done
invariant-loop-done g l = record {
  inside : l.done ≤ l.n;
  taken : IfSome (text_at (g.S.Sources.reading l.fn.sources).stated 0) (λ t. TakesIn t l.off l.done l.fn.hasher l.hasher);
  reads : g.S.Sources.reading l.sources ≡ g.S.Sources.reading l.fn.sources;
}

abbrev pub decreases-loop-done : goal.decreases-loop-done
decreases-loop-done g l = l.n - l.done
