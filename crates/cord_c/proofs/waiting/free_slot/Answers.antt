use Rattle.std.proofs.Common.{◌≡◌, ◌+◌, ◌-◌, ◌/◌, length, drop, refl, ap, ◌∙◌, arith}
use Rattle.std.proofs.Math.Seq.{paste}
use Rattle.cord_c.proofs.WaitingStretches.{slot_freed}
use Rattle.cord_c.proofs.waiting.free_slot.Goals as goal

pub returns : goal.returns
returns c =
    let old = c.args.room.now in
    let kept = (length old - c.args.left) / 2 in
    let count : c.args.left + kept - c.args.left ≡ kept = omega arith in
    slot_freed old c.copy_within.new.self c.args.from c.args.left kept (length old - kept) c.requires.order c.requires.inside (omega (arith, c.if-from-left.false)) (omega arith) (omega arith) refl
    (c.copy_within.ensures.after ∙ ap (paste old (length old - kept) (drop c.args.left old)) count) c.copy_within.ensures.len
