use Rattle.std.proofs.Common.{◌∙◌, ap, map, take, refl, sym, subst}
use Rattle.rope_node.specs.Table.{view_at, IsLiteral}
use Rattle.rope_node.specs.Denotes.{Byte}
use Rattle.cord_position.proofs.LeafParts.{literal_part}
use Rattle.cord_position.proofs.run.literal_span.Goals as goal

pub returns-in-Lit-clause-cells : goal.returns-in-Lit-clause-cells
returns-in-Lit-clause-cells g c some =
    let t = g.S.NodeSpace.table c.args.space.now in
    let x = c.args.span in
    let literal : IsLiteral (view_at t x.leaf.0) = subst IsLiteral c.in-Lit.ensures.view tt in
    ap (λ bytes. map Byte (take x.len bytes)) c.literal.ensures
    ∙ sym (literal_part t c.node.ensures.sound x.leaf.0 x.start x.len c.requires.there c.requires.inside (view_at t x.leaf.0) refl literal)
