use Rattle.std.proofs.Common.{◌≡◌, ◌≤◌, ℕ, length, min, refl, ap, ◌∙◌, subst, arith}
use Rattle.image_reader.specs.Accepted.{splices_before}
use Rattle.byte_origins.specs.declared.stretch.Stretch.{Stretch}
use Rattle.byte_origins.specs.StepsBack.{came_len}
use Rattle.cord_c.specs.OriginRooms.{PutsInFront, behind_of}
use Rattle.cord_c.proofs.WaitingStretches.{going_ends, going_more, put_nothing}
use Rattle.cord_c.proofs.telling.first_run.Goals as goal

pub returns-in-Run : goal.returns-in-Run
returns-in-Run c =
    going_ends c.args.image.now c.args.x c.args.room.now c.back.room c.put_behind-at.new.room c.args.from c.args.left c.put_behind-at.result c.back.at c.len.result c.back.top c.back.invariant c.put_behind-at.ensures c.in-Run.run' c.min-len.result
    c.in-Run.ensures.step c.in-Run.ensures.exact (c.len.ensures ∙ ap came_len c.in-Run.is) c.min-len.ensures

pub back-preserved : goal.back-preserved
back-preserved c =
    let v = c.args.image.now in
    let n = c.in-FromText.n in
    let next : Stretch = record { revision = c.in-FromText.j; place = c.in-FromText.place; len = min c.back.top.len n; first = splices_before v c.in-FromText.j } in
    let puts : PutsInFront (behind_of c.back.top n) c.back.room c.args.from c.back.at c.put_behind-at.new.room c.put_behind-at.result =
    subst (λ (m : ℕ). PutsInFront (behind_of c.back.top m) c.back.room c.args.from c.back.at c.put_behind-at.new.room c.put_behind-at.result) (c.len.ensures ∙ ap came_len c.in-FromText.is) c.put_behind-at.ensures in
    rw (c.earlier-top.ensures)
    (going_more v c.args.x c.args.room.now c.back.room c.put_behind-at.new.room c.args.from c.args.left c.put_behind-at.result c.back.at n c.back.top c.back.invariant puts next c.in-FromText.ensures.step c.in-FromText.ensures.exact refl refl)

pub back-preserved-in-Some : goal.back-preserved-in-Some
back-preserved-in-Some c =
    let n = c.in-Some.ensures.moved.0 in
    let moves = c.in-Some.ensures.moved.1 in
    let len = moves.len in
    let whole = moves.whole in
    let order = c.back.invariant.order in
    let inside = c.back.invariant.inside in
    let same = c.back.invariant.len in
    let least : c.in-Some.moved.len ≡ min c.back.top.len n = omega (arith, len, whole) in
    going_more c.args.image.now c.args.x c.args.room.now c.back.room c.back.room c.args.from c.args.left c.back.at c.back.at n c.back.top c.back.invariant
    (put_nothing c.back.room c.args.from c.back.at n c.back.top order (omega (arith, inside, same)) whole) c.in-Some.moved moves.step moves.exact least moves.first
