use Rattle.std.proofs.Common.{◌≡◌, ℕ, min, ap, ◌∙◌, arith}
use Rattle.byte_origins.specs.declared.stretch.Stretch.{Stretch}
use Rattle.byte_origins.specs.StepsBack.{came_len}
use Rattle.byte_origins.specs.Stretches.{left_origins}
use Rattle.byte_origins.proofs.Stretching.{all_stay, back_begins, back_more, back_ends, back_stays, stretch_fits}
use Rattle.byte_origins.proofs.stretch.next_run.Goals as goal

pub back-init : goal.back-init
back-init c = (back_begins c.args.image.now c.args.left.now.items c.pop.new.self.items c.in-Some.last c.requires.left c.in-Some.ensures.items, omega (arith, c.in-Some.ensures.cases, c.in-Some.ensures.capacity))

pub returns-in_default-reserve-clause-stretches : goal.returns-in_default-reserve-clause-stretches
returns-in_default-reserve-clause-stretches c =
    let v = c.args.image.now in
    rw (c.push_reserved.ensures.items, c.reserve.ensures.items) (all_stay v (left_origins v c.args.left.now.items) c.back.top c.back.left.items c.back.invariant.0)

pub returns-in_default-reserve-clause-err : goal.returns-in_default-reserve-clause-err
returns-in_default-reserve-clause-err c =
    let v = c.args.image.now in
    rw (c.push_reserved.ensures.items, c.reserve.ensures.items) (back_stays v (left_origins v c.args.left.now.items) c.back.top c.back.left.items c.back.invariant.0)

pub put_back-requires-clause-fits : goal.put_back-requires-clause-fits
put_back-requires-clause-fits c = stretch_fits c.args.image.now c.revisions-count.ensures.true_records c.back.top c.back.invariant.0.is

pub returns-in-Run-clause-next : goal.returns-in-Run-clause-next
returns-in-Run-clause-next c =
    let v = c.args.image.now in
    let least : c.min-len.result ≡ min c.back.top.len c.in-Run.run'.len = c.min-len.ensures ∙ ap (λ (n : ℕ). min c.back.top.len n) (c.len.ensures ∙ ap came_len c.in-Run.is) in
    rw (c.put_back.ensures.items, c.in-Ok.ensures.items) (back_ends v (left_origins v c.args.left.now.items) c.back.top c.back.left.items c.in-Run.run' c.min-len.result c.back.invariant.0 c.in-Run.ensures least)

pub back-preserved : goal.back-preserved
back-preserved c =
    let v = c.args.image.now in
    let next : Stretch = record { revision = c.in-FromText.revision; place = c.in-FromText.place; len = c.min-len.result; first = c.start_of-first.result } in
    let least : c.min-len.result ≡ min c.back.top.len c.in-FromText.field-2 = c.min-len.ensures ∙ ap (λ (n : ℕ). min c.back.top.len n) (c.len.ensures ∙ ap came_len c.in-FromText.is) in (
      rw (c.put_back.ensures.items, c.in-Ok.ensures.items) (back_more v (left_origins v c.args.left.now.items) c.back.top next c.back.left.items c.in-FromText.field-2 c.back.invariant.0 c.in-FromText.ensures least c.start_of-first.ensures),
      c.put_back.ensures.room,
    )
