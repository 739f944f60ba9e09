use Rattle.std.proofs.Common.{◌∙◌, map, ap}
use Rattle.rope_node.specs.Denotes.{Byte}
use Rattle.node_table.specs.Held.{table_of}
use Rattle.rebalance.proofs.PieceTexts.{written_cells}
use Rattle.rebalance.proofs.StepLaws.{ok_map}
use Rattle.rebalance.proofs.pieces.written.Goals as goal

pub returns-clause-text : goal.returns-clause-text
returns-clause-text g c =
    let t = table_of g.F.LeafFn.meaning c.args.store.now in
    let text = written_cells t c.len-len.ensures.sound c.args.leaf c.args.start c.args.len c.requires.there c.requires.function c.requires.inside in
    ok_map c.from_bytes.result (λ r is. is ∙ ap (map Byte) c.read-bytes.ensures ∙ text) c.from_bytes.ensures.makes.text
