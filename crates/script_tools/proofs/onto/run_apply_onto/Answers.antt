use Rattle.std.proofs.Common.{Result, Ok, Err, sym, ap, subst, ◌∙◌}
use Rattle.std.proofs.lemmas.Result.{err_from_is_err_and}
use Rattle.std.proofs.KnownBytes.{Keeps-refl}
use Rattle.script_tools.specs.declared.fault.OntoFault.{OntoFault}
use Rattle.script_tools.specs.Onto.{AppliesOnto}
use Rattle.script_tools.proofs.OntoImages.{made_behind, stopped_onto, was_begun}
use Rattle.script_tools.proofs.onto.run_apply_onto.Goals as goal

pub returns-in_err-go_on : goal.returns-in_err-go_on
returns-in_err-go_on g c =
    let old = g.S.Sources.reading c.args.sources.now in
    let new = g.S.Sources.reading c.begun_onto.new.sources in
    let before = g.W.Write.contents c.args.writer.now in
    let was = was_begun c.args.at_most old new c.args.image.items c.in_ok-session.session c.in_ok-session.ensures in
    let p = err_from_is_err_and c.from_residual-in_err-go_on.result c.from_residual-in_err-go_on.ensures.1 in
    subst (λ (r : Result (Unit {0}) OntoFault). AppliesOnto c.args.at_most old new c.args.image.items c.args.script.now before before r) (sym (p.1 ∙ ap Err p.2))
    (stopped_onto c.args.script.now was c.in_err-go_on.field-0.0 c.go_on.new.session before before c.in_err-go_on.ensures (Keeps-refl before))

pub returns-in-Ok : goal.returns-in-Ok
returns-in-Ok g c =
    let old = g.S.Sources.reading c.args.sources.now in
    let new = g.S.Sources.reading c.begun_onto.new.sources in
    let made = c.go_on.new.session in
    let was = was_begun c.args.at_most old new c.args.image.items c.in_ok-session.session c.in_ok-session.ensures in
    let is_made = made_behind c.args.script.now was made c.in_ok-go_on.ensures in
    record { checked = Ok was.v; check = was.check; written = (made, is_made, c.in-Ok.ensures.image, c.in-Ok.ensures.trusted, c.in-Ok.ensures.as_made, c.in-Ok.ensures.written.ok) }

pub returns : goal.returns
returns g c =
    let old = g.S.Sources.reading c.args.sources.now in
    let new = g.S.Sources.reading c.begun_onto.new.sources in
    let made = c.go_on.new.session in
    let was = was_begun c.args.at_most old new c.args.image.items c.in_ok-session.session c.in_ok-session.ensures in
    let is_made = made_behind c.args.script.now was made c.in_ok-go_on.ensures in
    record { checked = Ok was.v; check = was.check; written = (made, is_made, c.in-Err.ensures.written.err) }
