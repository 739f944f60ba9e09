use Rattle.std.proofs.Common.{◌<◌, ◌%◌, [], length, get_or, ap, ◌∙◌, arith}
use Rattle.node_table.specs.declared.block.TheConstants.{ITEMS_IN_BLOCK}
use Rattle.node_table.specs.Blocks.{all_items}
use Rattle.node_table.proofs.Filling.{stands_at, item_at}
use Rattle.node_table.proofs.blocks.Blocks.at.Goals as goal

pub index-requires : goal.index-requires
index-requires g c =
    let inside : c.args.i < length (all_items c.self.inside.blocks.items) = rw (← c.self.view_is) at c.requires in
    omega (arith, (stands_at c.self.inside.blocks.items c.args.i [] c.self.invariant.filled inside).block)

pub at-requires : goal.at-requires
at-requires g c =
    let inside : c.args.i < length (all_items c.self.inside.blocks.items) = rw (← c.self.view_is) at c.requires in
    rw c.index.ensures (stands_at c.self.inside.blocks.items c.args.i c.index.result.now c.self.invariant.filled inside).inside

pub returns : goal.returns
returns g c =
    let inside : c.args.i < length (all_items c.self.inside.blocks.items) = rw (← c.self.view_is) at c.requires in
    let place = stands_at c.self.inside.blocks.items c.args.i c.index.result.now c.self.invariant.filled inside in
    rw (← c.self.view_is) (c.at.ensures ∙ ap (λ b. get_or b (c.args.i % ITEMS_IN_BLOCK) c.at.result.now) c.index.ensures ∙ item_at c.self.inside.blocks.items c.args.i c.index.result.now c.at.result.now place)
