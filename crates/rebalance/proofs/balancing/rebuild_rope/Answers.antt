use Rattle.std.proofs.Common.{refl}
use Rattle.rebalance.proofs.AnyCalls.{all_rebuilt}
use Rattle.rebalance.proofs.balancing.rebuild_rope.Goals as goal

pub returns : goal.returns
returns g c =
    let meaning = g.F.LeafFn.meaning in
    let k = c.count-count.ensures in
    let there = rw c.in-Some.is at c.requires.there in
    let built = rw c.whole-span.ensures.is at c.rebuild_few.ensures in
    rw c.in-Some.is
    (all_rebuilt meaning c.args.store.now c.rebuild_few.new.store c.args.keep c.in-Some.node _ c.rebuild_few.result k.sound k.true_records there refl built)
