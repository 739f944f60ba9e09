use Rattle.std.proofs.Common.{◌+◌, ◌^◌, ◌≤◌, ◌++◌}
use Rattle.rope_node.specs.Denotes.{rope_cells, rope_len}
use Rattle.node_table.specs.Held.{table_of}
use Rattle.rope_store.specs.Joining.{joined}
use Rattle.rope_store.proofs.CallSizes.{joined_few}
use Rattle.rebalance.specs.Pieces.{kept_pieces}
use Rattle.rebalance.proofs.FullStores.{joined_some, nodes_wanted}
use Rattle.rebalance.proofs.AnyLaws.{any_plain, not_true}
use Rattle.rebalance.proofs.any.cat_any.Goals as goal

pub returns : goal.returns
returns g c =
    let meaning = g.F.LeafFn.meaning in
    let old = c.args.store.now in
    let t = table_of meaning old in
    let l = c.args.l in
    let r = c.args.r in
    let k = c.count-count.ensures in
    rw c.lift.ensures
    (any_plain meaning old c.cat-plain.new.self (joined t l r) (rope_cells t l ++ rope_cells t r) (2 ^ 40 ≤ rope_len t l + rope_len t r) (kept_pieces t l) (kept_pieces t r) 2 31 c.cat-plain.result (joined_few t k.sound k.true_records l r c.requires.left c.requires.right) (nodes_wanted old (joined t l r) k.kept.pool (joined_some _ t l r))
    c.cat-plain.ensures.makes c.cat-plain.ensures.refuses (λ e. not_true (c.if-is_too_deep.ensures.1 e)))
