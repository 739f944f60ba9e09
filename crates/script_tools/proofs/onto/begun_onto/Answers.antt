use Rattle.std.proofs.Common.{List, ℕ, Ok, subst}
use Rattle.session_checker.specs.Limits.{ChecksWithin}
use Rattle.script_tools.proofs.AcceptedImages.{keeps_rules}
use Rattle.script_tools.proofs.onto.begun_onto.Goals as goal

pub begun_over-requires : goal.begun_over-requires
begun_over-requires g c =
    let old = g.S.Sources.reading c.args.sources.now in
    let new = g.S.Sources.reading c.check_told.new.sources in
    (old.stated, keeps_rules c.args.at_most old new c.deref.result.now c.in-Ok.checked c.in-Ok.ensures)

pub returns-in-Ok : goal.returns-in-Ok
returns-in-Ok g c =
    let old = g.S.Sources.reading c.args.sources.now in
    let new = g.S.Sources.reading c.check_told.new.sources in
    record {
      checked = Ok c.in-Ok.checked;
      check = subst (λ (bytes : List ℕ). ChecksWithin c.args.at_most old new bytes (Ok c.in-Ok.checked)) c.deref.ensures.value c.in-Ok.ensures;
      begins = c.begun_over.ensures;
    }
