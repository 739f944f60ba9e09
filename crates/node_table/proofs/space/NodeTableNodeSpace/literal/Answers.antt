use Rattle.std.proofs.Common.{◌≡◌, ◌≤◌, ap, subst}
use Rattle.rope_node.specs.Table.{Node}
use Rattle.node_table.specs.Held.{Held}
use Rattle.node_table.proofs.LiteralRest.{literal_rest}
use Rattle.node_table.proofs.space.NodeTableNodeSpace.literal.Goals as goal

pub returns : goal.returns
returns g c =
    let h = c.args.self.now in
    let entry = c.entry-entry.result.now in
    let short : c.args.off ≤ entry.len = subst (λ (n : Node). c.args.off ≤ n.len) c.entry-entry.ensures.node c.requires.inside in
    let pool : c.self.inside.pool ≡ h.pool = ap (λ (k : Held _). k.pool) c.self.view_is in
    rw (c.entry-entry.ensures.node, c.in-Literal.is, ← pool) (literal_rest c.self.inside.pool.bytes c.in-Literal.a entry.len c.args.off c.in-Some.bytes.now short c.in-Some.ensures.bytes)
