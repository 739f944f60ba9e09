use Rattle.std.proofs.Common.{◌+◌, ◌∙◌, take, arith}
use Rattle.std.proofs.lemmas.List.{get_or-take, length-take}
use Rattle.std.proofs.lemmas.List.FromFn.{fill_by_all}
use Rattle.node_table.specs.Held.{table_of}
use Rattle.rebalance.proofs.pieces.read.Goals as goal

pub returns : goal.returns
returns g c =
    let n = c.args.len in
    let bytes = c.loop-k.bytes in
    let few = length-take n bytes in
    fill_by_all (λ k. (table_of g.F.LeafFn.meaning c.args.store.now).answer c.args.leaf.0 (c.args.start + k)) (take n bytes) n 0 (omega (arith, few, c.loop-k.invariant.0, c.requires.short))
    (λ k lt. get_or-take n bytes k 0 lt ∙ c.loop-k.invariant.1 k (omega arith))
