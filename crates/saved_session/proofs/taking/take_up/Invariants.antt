use Rattle.std.proofs.Common.{◌≡◌}
use Rattle.image_reader.specs.Accepted.{rows_before, splices_before}
use Rattle.saved_session.specs.TakenUp.{TakesFirst}
use Rattle.saved_session.proofs.taking.take_up.Given as goal

abbrev pub invariant-loop-k : goal.invariant-loop-k
invariant-loop-k l = record {
  first_is : l.first ≡ splices_before l.checked l.k;
  from_is : l.from ≡ rows_before l.checked l.k;
  takes : TakesFirst l.checked l.k l.session;
}
