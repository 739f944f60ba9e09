use Rattle.std.proofs.Common.{subst}
use Rattle.cord_session.specs.Images.{MakesImage}
use Rattle.cord_session.specs.declared.kept.Kept.{Kept}
use Rattle.cord_session.proofs.Resuming.{saves_handle}
use Rattle.cord_session.proofs.images.cord_session_save.Goals as goal

pub returns-in-Some : goal.returns-in-Some
returns-in-Some c =
    saves_handle c.args.session.now.slot.value c.of.result.slot.value c.in-Some.kept.value c.save-outcome.new.kept c.save-outcome.result c.args.len.now c.save-outcome.new.len
    c.in-Some.ensures.value c.of.ensures
    (subst (λ (x : Kept). MakesImage x c.save-outcome.new.kept c.save-outcome.result c.args.len.now c.save-outcome.new.len) c.deref_mut.ensures.value c.save-outcome.ensures)
