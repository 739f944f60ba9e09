use Rattle.std.proofs.Common.{◌≡◌, ℕ, ◌+◌, ◌<◌, ◌≤◌}
use Rattle.image_reader.specs.Accepted.{rows_before, splices_before}
use Rattle.span_certificate.proofs.RowLooks.{looks_before}
use Rattle.session_checker.specs.RevisionRules.{IsGoodOver}
use Rattle.session_checker.proofs.revision_rules.revisions_told.Given as goal

abbrev pub invariant-loop-k : goal.invariant-loop-k
invariant-loop-k g l = record {
  from_is : l.from ≡ rows_before l.revisions l.k;
  first_is : l.first ≡ splices_before l.revisions l.k;
  good : (c : ℕ) → c < l.k → IsGoodOver l.revisions (g.S.Sources.reading l.fn.sources).stated c;
  reads : g.S.Sources.reading l.sources ≡ g.S.Sources.reading l.fn.sources;
  looks : l.looks.count.now ≤ l.fn.looks.count.now + looks_before l.revisions.rows l.from;
  space : l.looks.space.now ≡ l.fn.looks.space.now;
  same : l.looks.count.ghost_name ≡ l.fn.looks.count.ghost_name;
}
