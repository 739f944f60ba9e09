use Rattle.std.proofs.Common.{List, ℕ, Ok, refl, subst}
use Rattle.saved_session.proofs.CheckedImages.{was_checked}
use Rattle.session_checker.specs.Limits.{ChecksWithin}
use Rattle.commit_tools.proofs.committing.begun_onto.Goals as goal

pub begun_over-requires : goal.begun_over-requires
begun_over-requires g c =
    let old = g.S.Sources.reading c.args.sources.now in
    let check = c.in-Ok.ensures in
    was_checked c.deref.result.now c.in-Ok.checked old.stated check.image.0 check.image.1 (check.accepted refl)

pub returns-in-Ok : goal.returns-in-Ok
returns-in-Ok g c =
    let old = g.S.Sources.reading c.args.sources.now in
    let new = g.S.Sources.reading c.check_told.new.sources in
    record {
      checked = Ok c.in-Ok.checked;
      check = subst (λ (bytes : List ℕ). ChecksWithin c.args.at_most old new bytes (Ok c.in-Ok.checked)) c.deref.ensures.value c.in-Ok.ensures;
      begins = c.begun_over.ensures;
    }
