use Rattle.std.proofs.Common.{◌≡◌, false, sym}
use Rattle.node_table.specs.Held.{table_of}
use Rattle.rebalance.specs.Pieces.{is_kept}
use Rattle.rebalance.proofs.Splits.{split_base, split_children}
use Rattle.rebalance.proofs.pieces.step_down.Goals as goal

pub returns-in-Cat : goal.returns-in-Cat
returns-in-Cat g c =
    let t = table_of g.F.LeafFn.meaning c.args.store.now in
    let p = c.args.span in
    let k = c.count-count.ensures in
    let free : is_kept c.args.keep t p.node.0 p.start p.len ≡ false = sym c.if-is_kept.ensures in
    rw (c.min-count.ensures, c.min-skipped.ensures)
    (split_children c.args.keep t k.sound k.true_records p c.in-Cat.l c.in-Cat.r c.left_len-left.result c.requires.span (sym c.in-Cat.ensures.view) free c.left_len-left.ensures.value)

pub returns-in-Sub : goal.returns-in-Sub
returns-in-Sub g c =
    let t = table_of g.F.LeafFn.meaning c.args.store.now in
    let p = c.args.span in
    let free : is_kept c.args.keep t p.node.0 p.start p.len ≡ false = sym c.if-is_kept.ensures in
    split_base c.args.keep t c.count-count.ensures.sound p c.in-Sub.b c.in-Sub.i c.requires.span (sym c.in-Sub.ensures.view) free
