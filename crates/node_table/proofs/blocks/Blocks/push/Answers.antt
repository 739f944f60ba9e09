use Rattle.std.proofs.Common.{◌+◌, ◌-◌, ◌*◌, ◌≤◌, [], ◌∷◌, length, ap, ◌∙◌, arith}
use Rattle.std.proofs.Math.Nat.{mod-lt}
use Rattle.std.proofs.lemmas.List.{length-append, length-set}
use Rattle.node_table.specs.declared.block.TheConstants.{ITEMS_IN_BLOCK}
use Rattle.node_table.specs.Blocks.{all_items}
use Rattle.node_table.proofs.Filling.{pushed_last}
use Rattle.node_table.proofs.blocks.Blocks.push.Goals as goal

pub push-requires : goal.push-requires
push-requires g c =
    let bs = c.self.inside.blocks.items in
    let room : 1 ≤ length bs * ITEMS_IN_BLOCK - length (all_items bs) = rw (← c.self.view_is) at c.requires.room in
    let p = pushed_last bs c.self.inside.len c.index_mut.result.now c.args.item c.self.invariant.filled c.self.invariant.count room in
    rw (c.index_mut.ensures.value, p.before) (mod-lt c.self.inside.len (omega arith))

pub invariant_of-self : goal.invariant_of-self
invariant_of-self g c =
    let bs = c.self.inside.blocks.items in
    let room : 1 ≤ length bs * ITEMS_IN_BLOCK - length (all_items bs) = rw (← c.self.view_is) at c.requires.room in
    let p = pushed_last bs c.self.inside.len c.index_mut.result.now c.args.item c.self.invariant.filled c.self.invariant.count room in
    rw (c.push.ensures, c.index_mut.ensures.value) (record {
      filled = p.filled;
      count = ap length p.items ∙ length-append (all_items bs) (c.args.item ∷ []) ∙ ap (λ n. n + 1) c.self.invariant.count;
    })

pub returns-clause-items : goal.returns-clause-items
returns-clause-items g c =
    let bs = c.self.inside.blocks.items in
    let room : 1 ≤ length bs * ITEMS_IN_BLOCK - length (all_items bs) = rw (← c.self.view_is) at c.requires.room in
    let p = pushed_last bs c.self.inside.len c.index_mut.result.now c.args.item c.self.invariant.filled c.self.invariant.count room in
    rw (← c.self.view_is, c.push.ensures, c.index_mut.ensures.value) p.items

pub returns-clause-room : goal.returns-clause-room
returns-clause-room g c =
    let bs = c.self.inside.blocks.items in
    let room : 1 ≤ length bs * ITEMS_IN_BLOCK - length (all_items bs) = rw (← c.self.view_is) at c.requires.room in
    let p = pushed_last bs c.self.inside.len c.index_mut.result.now c.args.item c.self.invariant.filled c.self.invariant.count room in
    rw (← c.self.view_is, c.push.ensures, c.index_mut.ensures.value, p.items, length-set) (omega (arith, room, length-append (all_items bs) (c.args.item ∷ [])))
