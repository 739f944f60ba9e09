use Rattle.std.proofs.Common.{◌-◌, slice_set, ap, ◌∙◌, arith}
use Rattle.cord_types.specs.declared.origins.CordOrigin.{CordOrigin}
use Rattle.cord_c.specs.OriginRooms.{waiting_numbers}
use Rattle.cord_c.proofs.WaitingStretches.{put_in_slot}
use Rattle.cord_c.proofs.waiting.put_behind.Goals as goal

pub returns : goal.returns
returns c =
    let new = c.free_slot-free.new.room in
    let at = c.free_slot-free.result in
    let frees = c.free_slot-free.ensures in
    let order = frees.order in
    put_in_slot c.args.room.now new (slice_set new (at - 1) c.waiting.result) c.args.from c.args.left at c.args.n c.args.x c.requires.inside (omega (arith, c.if-n-x.false)) frees (omega (arith, order, c.if-free-from.false))
    (ap (λ (y : CordOrigin). slice_set new (at - 1) y) (c.waiting.ensures ∙ ap waiting_numbers c.behind.ensures))
