use Rattle.std.proofs.Common.{◌+◌, ◌-◌, inl, inr, sym, ◌∙◌, arith}
use Rattle.rope_node.specs.Denotes.{rope_len}
use Rattle.cord_position.specs.Fetched.{rope_cell}
use Rattle.text_lines.proofs.ToldCells.{none_of, same_of, told_alone, told_beside}
use Rattle.text_lines.proofs.known.are_told_by_others.Goals as goal

pub returns-then-is_none : goal.returns-then-is_none
returns-then-is_none g c told =
    let t = g.S.NodeSpace.table c.args.space.now in
    told_alone (rope_cell t c.args.rope) (rope_len t c.args.rope) c.args.place c.args.count (c.are_of_one_leaf.ensures c.if-not-are_of_one_leaf.false) (sym c.source_at-source.ensures ∙ none_of c.source_at-source.result c.if-is_none.ensures)

pub returns-then-eq : goal.returns-then-eq
returns-then-eq g c told =
    let t = g.S.NodeSpace.table c.args.space.now in
    told_beside (rope_cell t c.args.rope) (rope_len t c.args.rope) c.args.place c.args.count (c.args.place - 1) (c.are_of_one_leaf.ensures c.if-not-are_of_one_leaf.false) (omega (arith, c.requires.inside, c.if-place-gt0.true)) (inl (omega (arith, c.if-place-gt0.true)))
    (sym c.source_at-source.ensures ∙ same_of c.source_at-source.result c.source_at.result c.if-eq.ensures ∙ c.source_at.ensures)

pub returns-then-place-count : goal.returns-then-place-count
returns-then-place-count g c told =
    let t = g.S.NodeSpace.table c.args.space.now in
    told_beside (rope_cell t c.args.rope) (rope_len t c.args.rope) c.args.place c.args.count (c.args.place + c.args.count) (c.are_of_one_leaf.ensures c.if-not-are_of_one_leaf.false) (omega (arith, c.if-place-count.true, c.rope_len-len.ensures.exact)) (inr (omega arith))
    (sym c.source_at-source.ensures ∙ same_of c.source_at-source.result c.source_at-then-place-count.result (sym told ∙ c.eq-then-place-count.ensures) ∙ c.source_at-then-place-count.ensures)
