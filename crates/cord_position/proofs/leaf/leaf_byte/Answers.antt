use Rattle.std.proofs.Common.{◌≡◌, ℕ, ◌+◌, ◌<◌, ap, ◌∙◌, arith}
use Rattle.rope_node.specs.Denotes.{Place, cell_at}
use Rattle.cord_position.proofs.LeafParts.{moved}
use Rattle.std.proofs.Common.{refl, sym, subst}
use Rattle.rope_node.specs.Table.{view_at, IsLiteral}
use Rattle.cord_position.proofs.LeafCells.{literal_first, source_cell, function_cell}
use Rattle.cord_position.proofs.leaf.leaf_byte.Goals as goal

pub returns-in-Lit-clause-byte : goal.returns-in-Lit-clause-byte
returns-in-Lit-clause-byte g c source agrees stated =
    let t = g.S.NodeSpace.table c.args.space.now in
    let literal : IsLiteral (view_at t c.args.leaf.0) = subst IsLiteral c.in-Lit.ensures.view tt in
    let first = literal_first t c.node.ensures.sound c.args.leaf.0 c.args.start c.requires.there c.requires.inside (view_at t c.args.leaf.0) refl literal in
    rw (c.literal.ensures, first.1) refl

pub returns-in-Src-clause-byte : goal.returns-in-Src-clause-byte
returns-in-Src-clause-byte g c =
    let cell = source_cell (g.S.NodeSpace.table c.args.space.now) c.node.ensures.sound c.args.leaf.0 c.args.start c.in-Src.s c.in-Src.a c.requires.there c.requires.inside (sym c.in-Src.ensures.view) in
    rw cell c.source_byte.ensures.byte

pub returns-in-Fun-clause-byte : goal.returns-in-Fun-clause-byte
returns-in-Fun-clause-byte g c source agrees stated =
    let cell = function_cell (g.S.NodeSpace.table c.args.space.now) c.node.ensures.sound c.args.leaf.0 c.args.start c.requires.there c.requires.inside (sym c.in-Fun.ensures.view) in
    rw cell c.fun_byte.ensures

pub returns-in-Src-clause-reads : goal.returns-in-Src-clause-reads
returns-in-Src-clause-reads g c =
    let t = g.S.NodeSpace.table c.args.space.now in
    let same : (k : ℕ) → k < 1 → cell_at t c.args.leaf.0 (c.args.start + k) ≡ Place c.in-Src.s (c.in-Src.a + c.args.start + k) =
    λ k lt. source_cell t c.node.ensures.sound c.args.leaf.0 (c.args.start + k) c.in-Src.s c.in-Src.a c.requires.there (omega (arith, lt, c.requires.inside)) (sym c.in-Src.ensures.view) ∙ ap (Place c.in-Src.s) (omega arith) in
    moved _ _ (cell_at t c.args.leaf.0) (Place c.in-Src.s) c.args.start (c.in-Src.a + c.args.start) 1 c.source_byte.result same c.source_byte.ensures.reads
