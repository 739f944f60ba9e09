use Rattle.std.proofs.Common.{◌∙◌}
use Rattle.node_table.specs.Held.{table_of}
use Rattle.rebalance.proofs.PieceTexts.{whole_cells}
use Rattle.rebalance.proofs.StoreCalls.{whole_piece}
use Rattle.rebalance.proofs.pieces.piece.Goals as goal

pub returns-then-len-clause-piece : goal.returns-then-len-clause-piece
returns-then-len-clause-piece g c =
    whole_piece (table_of g.F.LeafFn.meaning c.args.store.now) c.len.ensures.sound c.len.ensures.true_records c.args.span c.requires.there (c.if-len.true ∙ c.len.ensures.value) c.requires.is

pub returns-then-len-clause-text : goal.returns-then-len-clause-text
returns-then-len-clause-text g c =
    let x = c.args.span in
    whole_cells (table_of g.F.LeafFn.meaning c.args.store.now) c.len.ensures.sound c.len.ensures.true_records x.node x.start x.len c.requires.there c.requires.some c.requires.inside (c.if-len.true ∙ c.len.ensures.value)
