use Rattle.std.proofs.Common.{ap, ◌∙◌, length, arith}
use Rattle.std.proofs.lemmas.List.{length-append}
use Rattle.node_table.proofs.Filling.{filled_fits, filled_more, items_more}
use Rattle.node_table.proofs.blocks.Blocks.reserve.Goals as goal

pub invariant_of-self : goal.invariant_of-self
invariant_of-self g c =
    let bs = c.self.inside.blocks.items in
    rw (c.in_ok-push.ensures.items, c.in_ok-block.ensures) (record {
      filled = filled_more bs c.self.invariant.filled;
      count = ap length (items_more bs) ∙ c.self.invariant.count;
    })

pub returns-in_ok-push-clause-items : goal.returns-in_ok-push-clause-items
returns-in_ok-push-clause-items g c = rw (c.in_ok-push.ensures.items, c.in_ok-block.ensures, ← c.self.view_is) (items_more c.self.inside.blocks.items)

pub returns-in_ok-push-clause-room : goal.returns-in_ok-push-clause-room
returns-in_ok-push-clause-room g c =
    let bs = c.self.inside.blocks.items in
    rw (c.in_ok-push.ensures.items, c.in_ok-block.ensures, items_more bs, length-append) (omega (arith, filled_fits bs c.self.invariant.filled, c.requires.few))
