use Rattle.std.proofs.Common.{◌+◌, ◌<◌, ◌≤◌, length, Err, refl, sym, ap, subst, ◌∙◌, arith}
use Rattle.std.specs.Prelude.{Result}
use Rattle.std.proofs.lemmas.Bool.{ltb-false}
use Rattle.std.proofs.lemmas.Result.{err_from_is_err_and}
use Rattle.edit_commands.specs.declared.fault.EditFault.{EditFault}
use Rattle.edit_commands.specs.declared.revision.Revision.{Revision}
use Rattle.command_parts.specs.declared.edit.TheConstants.{SPLICES_LIMIT}
use Rattle.edit_commands.specs.Applying.{Revises}
use Rattle.edit_commands.specs.Building.{edit_with}
use Rattle.edit_commands.specs.Codes.{rope_fault, rows_fault}
use Rattle.edit_commands.specs.Refusals.{changes_of}
use Rattle.edit_commands.specs.Session.{splices_held}
use Rattle.edit_commands.proofs.Accepted.{passes}
use Rattle.edit_commands.proofs.RevisionLists.{are_ropes}
use Rattle.edit_commands.proofs.MadeRevisions.{went_on, later_fault, revises_not, ropes_new, edit_in_range, parts_are_root, memory_behind, rows_pass, rows_later, revises_so, made_of_covers, splices_are}
use Rattle.edit_commands.proofs.revising.revise_at.Goals as goal

pub build-requires-clause-ropes : goal.build-requires-clause-ropes
build-requires-clause-ropes c = are_ropes c.args.store.now c.args.revisions.now c.requires.revisions

pub returns-in_err-root : goal.returns-in_err-root
returns-in_err-root c =
    let old = c.args.store.now in
    let new = c.build.new.store in
    let b = c.in_err-root.ensures in
    let on = went_on old new c.count-nodes.ensures.sound c.count-nodes.ensures.true_records c.count-nodes.ensures.kept b.builds.goes_on in
    let fault = c.in_err-root.field-0.0 in
    let p = err_from_is_err_and c.from_residual.result c.from_residual.ensures.1 in
    subst (λ (r : Result Revision EditFault). Revises old c.args.revisions.now c.args.command.now r new) (sym (p.1 ∙ ap Err p.2))
    (revises_not old new c.args.revisions.now c.args.command.now c.requires.revisions b.builds.goes_on on (rope_fault fault)
    (later_fault old new c.args.revisions.now c.args.command.now fault b.builds.fault (b.placed, b.terms)))

pub returns-in_err-splices : goal.returns-in_err-splices
returns-in_err-splices c =
    let old = c.args.store.now in
    let new = c.build.new.store in
    let b = c.in_ok-root.ensures in
    let on = went_on old new c.count-nodes.ensures.sound c.count-nodes.ensures.true_records c.count-nodes.ensures.kept b.builds.goes_on in
    let p = err_from_is_err_and c.from_residual-in_err-splices.result c.from_residual-in_err-splices.ensures.1 in
    subst (λ (r : Result Revision EditFault). Revises old c.args.revisions.now c.args.command.now r new) (sym (p.1 ∙ ap Err (p.2 ∙ c.in_err-splices.ensures.fault)))
    (memory_behind old new c.args.revisions.now c.args.command.now c.requires.revisions b.builds.goes_on on c.count-more_nodes.ensures.sound c.count-more_nodes.ensures.true_records c.in_ok-root.root c.build.new.places b)

pub rows_for-requires-clause-ropes : goal.rows_for-requires-clause-ropes
rows_for-requires-clause-ropes c =
    let old = c.args.store.now in
    let new = c.build.new.store in
    let b = c.in_ok-root.ensures in
    let on = went_on old new c.count-nodes.ensures.sound c.count-nodes.ensures.true_records c.count-nodes.ensures.kept b.builds.goes_on in
    ropes_new old new c.args.revisions.now c.args.command.now c.requires.revisions b.builds.goes_on on

pub rows_for-requires-clause-splices : goal.rows_for-requires-clause-splices
rows_for-requires-clause-splices c = c.as_slice.ensures.value ∙ c.in_ok-splices.ensures.exact

pub rows_for-requires-clause-many : goal.rows_for-requires-clause-many
rows_for-requires-clause-many c =
    let old = c.args.store.now in
    let new = c.build.new.store in
    let b = c.in_ok-root.ensures in
    let on = went_on old new c.count-nodes.ensures.sound c.count-nodes.ensures.true_records c.count-nodes.ensures.kept b.builds.goes_on in
    splices_are old new c.args.revisions.now c.args.command.now c.requires.revisions b.builds.goes_on on c.count-more_nodes.ensures.sound c.count-more_nodes.ensures.true_records c.in_ok-root.root c.build.new.places b
    ∙ ap length (sym (c.as_slice.ensures.value ∙ c.in_ok-splices.ensures.exact))

pub rows_for-requires-clause-few : goal.rows_for-requires-clause-few
rows_for-requires-clause-few c =
    let old = c.args.store.now in
    let new = c.build.new.store in
    let b = c.in_ok-root.ensures in
    let on = went_on old new c.count-nodes.ensures.sound c.count-nodes.ensures.true_records c.count-nodes.ensures.kept b.builds.goes_on in
    let room : splices_held c.args.revisions.now + length (changes_of c.args.command.now) ≤ SPLICES_LIMIT =
    ltb-false _ _ (passes (record { held = old; revisions = c.args.revisions.now }) c.args.command.now c.requires.accepted).splices in
    let count = splices_are old new c.args.revisions.now c.args.command.now c.requires.revisions b.builds.goes_on on c.count-more_nodes.ensures.sound c.count-more_nodes.ensures.true_records c.in_ok-root.root c.build.new.places b in
    omega (arith, room, count, ap length (c.as_slice.ensures.value ∙ c.in_ok-splices.ensures.exact))

pub rows_for-requires-clause-in_range : goal.rows_for-requires-clause-in_range
rows_for-requires-clause-in_range c =
    let old = c.args.store.now in
    let new = c.build.new.store in
    let b = c.in_ok-root.ensures in
    let on = went_on old new c.count-nodes.ensures.sound c.count-nodes.ensures.true_records c.count-nodes.ensures.kept b.builds.goes_on in
    edit_in_range old new c.args.revisions.now c.args.command.now c.requires.revisions b.builds.goes_on on c.count-more_nodes.ensures.sound c.count-more_nodes.ensures.true_records c.in_ok-root.root c.build.new.places b

pub rows_for-requires-clause-same : goal.rows_for-requires-clause-same
rows_for-requires-clause-same c =
    let old = c.args.store.now in
    let new = c.build.new.store in
    let b = c.in_ok-root.ensures in
    let on = went_on old new c.count-nodes.ensures.sound c.count-nodes.ensures.true_records c.count-nodes.ensures.kept b.builds.goes_on in
    parts_are_root old new c.args.revisions.now c.args.command.now c.requires.revisions b.builds.goes_on on c.count-more_nodes.ensures.sound c.count-more_nodes.ensures.true_records c.in_ok-root.root c.build.new.places b

pub returns-in_err-rows : goal.returns-in_err-rows
returns-in_err-rows c =
    let old = c.args.store.now in
    let new = c.build.new.store in
    let b = c.in_ok-root.ensures in
    let on = went_on old new c.count-nodes.ensures.sound c.count-nodes.ensures.true_records c.count-nodes.ensures.kept b.builds.goes_on in
    let p = err_from_is_err_and c.from_residual-in_err-rows.result c.from_residual-in_err-rows.ensures.1 in
    let fault = c.in_err-rows.field-0.0 in
    let later =
    rows_later old new c.args.revisions.now c.args.command.now c.requires.revisions b.builds.goes_on on c.count-more_nodes.ensures.sound c.count-more_nodes.ensures.true_records c.in_ok-root.root c.build.new.places b
    fault (λ is. c.in_err-rows.ensures.too_many (ap Err is)) in
    subst (λ (r : Result Revision EditFault). Revises old c.args.revisions.now c.args.command.now r new) (sym (p.1 ∙ ap Err p.2))
    (revises_not old new c.args.revisions.now c.args.command.now c.requires.revisions b.builds.goes_on on (rows_fault fault) later)

pub returns-then-len-room : goal.returns-then-len-room
returns-then-len-room c =
    let old = c.args.store.now in
    let new = c.build.new.store in
    let b = c.in_ok-root.ensures in
    let on = went_on old new c.count-nodes.ensures.sound c.count-nodes.ensures.true_records c.count-nodes.ensures.kept b.builds.goes_on in
    let rows = c.in_ok-rows.rows.items in
    let many : c.args.room < length rows = omega (arith, c.if-len-room.true, c.len.ensures) in
    revises_not old new c.args.revisions.now c.args.command.now c.requires.revisions b.builds.goes_on on EditFault.TooManyRows
    (rows_pass old new c.args.revisions.now c.args.command.now c.requires.revisions b.builds.goes_on on c.count-more_nodes.ensures.sound c.count-more_nodes.ensures.true_records c.in_ok-root.root c.build.new.places b rows
    (made_of_covers new _ c.in_ok-root.root rows c.in_ok-rows.ensures.covers c.in_ok-rows.ensures.no_source c.in_ok-rows.ensures.longest)
    (omega (arith, many, c.requires.room)) (λ full. absurd (omega (arith, many, full, c.requires.room))))

pub recorded-requires : goal.recorded-requires
recorded-requires c =
    let room : splices_held c.args.revisions.now + length (changes_of c.args.command.now) ≤ SPLICES_LIMIT =
    ltb-false _ _ (passes (record { held = c.args.store.now; revisions = c.args.revisions.now }) c.args.command.now c.requires.accepted).splices in
    omega (arith, room)

pub returns : goal.returns
returns c =
    let old = c.args.store.now in
    let new = c.build.new.store in
    let b = c.in_ok-root.ensures in
    let on = went_on old new c.count-nodes.ensures.sound c.count-nodes.ensures.true_records c.count-nodes.ensures.kept b.builds.goes_on in
    let places = c.build.new.places in
    let command = c.args.command.now in
    let count = splices_are old new c.args.revisions.now command c.requires.revisions b.builds.goes_on on c.count-more_nodes.ensures.sound c.count-more_nodes.ensures.true_records c.in_ok-root.root places b in
    let room : splices_held c.args.revisions.now + length (changes_of command) ≤ SPLICES_LIMIT =
    ltb-false _ _ (passes (record { held = old; revisions = c.args.revisions.now }) command c.requires.accepted).splices in
    revises_so old new c.args.revisions.now command c.requires.revisions b.builds.goes_on on c.count-more_nodes.ensures.sound c.count-more_nodes.ensures.true_records c.in_ok-root.root places b _
    (c.recorded.ensures ∙ ap (λ first. edit_with places first command) c.requires.splices) c.in_ok-splices.ensures.exact refl c.is_marked-mark.ensures c.in_ok-rows.ensures.covers c.in_ok-rows.ensures.no_source c.in_ok-rows.ensures.longest
    (omega (arith, c.if-len-room.false, c.len.ensures, c.requires.room)) (omega (arith, room, count, ap length c.in_ok-splices.ensures.exact))
