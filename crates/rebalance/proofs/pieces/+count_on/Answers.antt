use Rattle.std.proofs.Common.{arith}
use Rattle.node_table.specs.Held.{table_of}
use Rattle.rebalance.proofs.PieceCounts.{few_pieces, told_of_all}
use Rattle.rebalance.proofs.pieces.+count_on.Goals as goal

pub returns-then-saturating_add-from : goal.returns-then-saturating_add-from
returns-then-saturating_add-from g t c =
    let p = c.args.span in
    omega (arith, few_pieces c.args.keep (table_of g.F.LeafFn.meaning c.args.store.now) p.node.0 p.start p.len, c.if-saturating_add-from.true, c.saturating_add.ensures, c.from.ensures)

pub returns-in_default : goal.returns-in_default
returns-in_default g t c =
    let p = c.longer_first.result.1 in
    told_of_all _ _ _ p.len _ _ _ _ c.in_default.not-So c.longer_first.ensures.count (few_pieces c.args.keep (table_of g.F.LeafFn.meaning c.args.store.now) p.node.0 p.start p.len)
    (λ short. omega (arith, short, c.saturating_add-in-Children.ensures)) c.count_on-in-Children.ensures
