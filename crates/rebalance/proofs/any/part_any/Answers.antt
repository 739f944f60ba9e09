use Rattle.std.proofs.Common.{refl}
use Rattle.rebalance.proofs.AnyCalls.{part_deep, part_plain}
use Rattle.rebalance.proofs.AnyLaws.{not_true}
use Rattle.rebalance.proofs.any.part_any.Goals as goal

pub returns : goal.returns
returns g c =
    rw c.lift.ensures (part_plain g.F.LeafFn.meaning c.args.store.now c.substr-plain.new.self c.args.node c.args.start c.args.len c.lowest-span.result c.substr-plain.result c.count-count.ensures.kept.pool c.lowest-span.ensures c.requires.some c.requires.inside c.substr-plain.ensures.makes c.substr-plain.ensures.refuses (λ e. not_true (c.if-is_too_deep.ensures.1 e)))

pub returns-then-is_too_deep : goal.returns-then-is_too_deep
returns-then-is_too_deep g c =
    part_deep g.F.LeafFn.meaning c.args.store.now c.substr-plain.new.self c.balance_part.new.store c.args.node c.args.start c.args.len c.lowest-span.result c.substr-plain.result c.balance_part.result c.lowest-span.ensures c.requires.some c.requires.inside
    c.substr-plain.ensures.makes c.substr-plain.ensures.refuses (c.if-is_too_deep.ensures.0 refl) c.balance_part.ensures
