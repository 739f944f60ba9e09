use Rattle.std.proofs.Common.{◌+◌, length, slice_set, refl, ◌∙◌, arith}
use Rattle.cord_c.proofs.WaitingStretches.{IsToldMore, telling_begins, telling_ends, telling_goes, told_one}
use Rattle.cord_c.proofs.telling.tell.Goals as goal

pub told-init : goal.told-init
told-init c =
    (telling_begins c.args.image.now c.revisions-count.ensures.true_records c.args.room.now (length c.args.room.now) c.args.rest c.requires.some refl c.requires.stretch c.requires.whole, refl)

pub returns-then-at-all : goal.returns-then-at-all
returns-then-at-all c =
    let v = c.args.image.now in
    let now = slice_set c.first_run-at.new.room c.told.done c.of.result in
    let told = told_one v c.args.rest.revision c.args.rest.place c.told.room c.first_run-at.new.room now c.told.done c.told.left c.first_run-at.result.1 c.told.top c.first_run-at.result.0 c.of.result c.told.invariant.0 c.first_run-at.ensures c.of.ensures refl in
    telling_ends v c.args.rest.revision c.args.rest.place now (c.told.done + 1) c.first_run-at.result.1 (length c.told.room) told (omega (arith, c.if-at-all.true, c.told.invariant.1))

pub told-preserved : goal.told-preserved
told-preserved c =
    let v = c.args.image.now in
    let now = slice_set c.first_run-at.new.room c.told.done c.of.result in
    let told : IsToldMore v c.args.rest.revision c.args.rest.place now (c.told.done + 1) c.first_run-at.result.1 (length c.told.room) =
    told_one v c.args.rest.revision c.args.rest.place c.told.room c.first_run-at.new.room now c.told.done c.told.left c.first_run-at.result.1 c.told.top c.first_run-at.result.0 c.of.result c.told.invariant.0 c.first_run-at.ensures c.of.ensures refl in
    let inside = told.inside in (
      telling_goes v c.args.rest.revision c.args.rest.place now (c.told.done + 1) c.first_run-at.result.1 (c.first_run-at.result.1 + 1) (length c.told.room) c.stretch_of-top.result _ told (omega (arith, inside, c.if-at-all.false, c.told.invariant.1)) refl
          c.stretch_of-top.ensures,
      told.len ∙ c.told.invariant.1,
    )
