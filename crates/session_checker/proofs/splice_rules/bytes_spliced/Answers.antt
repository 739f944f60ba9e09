use Rattle.std.proofs.Common.{◌∙◌, arith}
use Rattle.session_checker.proofs.SpliceSteps.{sum_next}
use Rattle.session_checker.proofs.splice_rules.bytes_spliced.Goals as goal

pub loop-i-preserved : goal.loop-i-preserved
loop-i-preserved g c = record {
  small = (omega (arith, c.saturating_add-taken.ensures), omega (arith, c.saturating_add-put.ensures));
  taken = c.loop-i.invariant.taken ∙ sum_next (λ s. s.m) (g.P.Splices.splices c.args.splices.now) c.args.first c.args.count c.loop-i.i c.loop-i.taken c.saturating_add-taken.result c.splice-s.result c.loop-i-test.true c.splice-s.ensures c.saturating_add-taken.ensures;
  put = c.loop-i.invariant.put ∙ sum_next (λ s. s.n) (g.P.Splices.splices c.args.splices.now) c.args.first c.args.count c.loop-i.i c.loop-i.put c.saturating_add-put.result c.splice-s.result c.loop-i-test.true c.splice-s.ensures c.saturating_add-put.ensures;
}
