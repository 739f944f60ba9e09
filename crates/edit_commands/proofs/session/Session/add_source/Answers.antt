use Rattle.std.proofs.Common.{Ok, refl, subst}
use Rattle.edit_commands.specs.Session.{SessionValue}
use Rattle.edit_commands.specs.Applying.{AddsSourceOrNot}
use Rattle.edit_commands.proofs.KeptRevisions.{revisions_kept}
use Rattle.edit_commands.proofs.SessionCalls.{session_kept, went_on_source, adds_source}
use Rattle.edit_commands.proofs.session.Session.add_source.Goals as goal

pub invariant_of-self-2 : goal.invariant_of-self-2
invariant_of-self-2 c =
    let old = c.self.inside.store in
    let items = c.self.inside.revisions.items in
    let nodes = c.count-nodes.ensures in
    let on = went_on_source old c.add_source.new.self c.args.len (Ok c.in_ok-add_source.field-0) nodes.sound nodes.true_records nodes.kept c.in_ok-add_source.ensures in
    (session_kept (record { held = old; revisions = items }) c.add_source.new.self c.self.invariant.0 (revisions_kept old c.add_source.new.self on items c.self.invariant.0.each), c.self.invariant.1, c.self.invariant.2)

pub returns : goal.returns
returns c =
    let old = c.self.inside.store in
    let new = c.add_source.new.self in
    let items = c.self.inside.revisions.items in
    let nodes = c.count-nodes.ensures in
    let on = went_on_source old new c.args.len (Ok c.in_ok-add_source.field-0) nodes.sound nodes.true_records nodes.kept c.in_ok-add_source.ensures in
    subst (λ (v : SessionValue). AddsSourceOrNot v c.args.len (Ok c.in_ok-add_source.field-0) (record { held = new; revisions = items })) c.self.view_is
    (adds_source old new items c.args.len (Ok c.in_ok-add_source.field-0) (Ok c.in_ok-add_source.field-0) on c.self.invariant.0.each c.in_ok-add_source.ensures refl)
