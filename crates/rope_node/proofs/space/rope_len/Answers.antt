use Rattle.std.proofs.Common.{◌<◌, length, sym, subst, ◌∙◌}
use Rattle.rope_node.specs.Denotes.{IsRope}
use Rattle.rope_node.proofs.Cells.{cells_length}
use Rattle.rope_node.proofs.space.rope_len.Goals as goal

pub returns-in-Some-clause-cells : goal.returns-in-Some-clause-cells
returns-in-Some-clause-cells g c =
    let t = g.S.NodeSpace.table c.args.space.now in
    let there : c.in-Some.node.0 < length t.nodes = subst (IsRope t) c.in-Some.is c.requires in
    rw c.in-Some.is (c.len.ensures.value ∙ sym (cells_length t c.len.ensures.sound c.len.ensures.true_records c.in-Some.node.0 there))
