use Rattle.std.proofs.Common.{◌≡◌, ℕ, ◌+◌, ◌<◌, ap, ◌∙◌, arith}
use Rattle.rope_node.specs.Denotes.{Place, cell_at}
use Rattle.cord_position.proofs.LeafCells.{source_cell}
use Rattle.cord_position.proofs.LeafParts.{moved}
use Rattle.std.proofs.Common.{length, refl, sym, subst, take}
use Rattle.rope_node.specs.Table.{view_at, len_at, literal_bytes, IsLiteral}
use Rattle.cord_position.proofs.LeafParts.{literal_part, source_part, function_part, bytes_of_bytes, bytes_of_map}
use Rattle.cord_position.specs.Runs.{AreBytesOf}
use Rattle.cord_position.proofs.fill.fill_part.Goals as goal

pub returns-in-Lit-clause-bytes : goal.returns-in-Lit-clause-bytes
returns-in-Lit-clause-bytes g c =
    let t = g.S.NodeSpace.table c.args.space.now in
    let st = (g.T.Sources.reading c.args.sources.now).stated in
    let id = c.args.leaf.0 in
    let n = length c.args.buffer.now in
    let literal : IsLiteral (view_at t id) = subst IsLiteral c.in-Lit.ensures.view tt in
    let part = literal_part t c.node.ensures.sound id c.args.start n c.requires.there c.requires.inside (view_at t id) refl literal in
    let bytes = take n (literal_bytes t c.args.start (len_at t id) (view_at t id)) in
    rw (c.copy_from_slice.ensures.after, c.literal.ensures) (subst (λ cs. AreBytesOf st cs bytes) (sym part) (bytes_of_bytes st bytes))

pub returns-in-Src-clause-bytes : goal.returns-in-Src-clause-bytes
returns-in-Src-clause-bytes g c =
    let part = source_part (g.S.NodeSpace.table c.args.space.now) c.node.ensures.sound c.args.leaf.0 c.args.start (length c.args.buffer.now) c.in-Src.s c.in-Src.a c.requires.there c.requires.inside (sym c.in-Src.ensures.view) in
    rw part c.fill_source.ensures.bytes

pub returns-in-Fun-clause-bytes : goal.returns-in-Fun-clause-bytes
returns-in-Fun-clause-bytes g c =
    let t = g.S.NodeSpace.table c.args.space.now in
    let part = function_part t c.node.ensures.sound c.args.leaf.0 c.args.start (length c.args.buffer.now) c.requires.there c.requires.inside (sym c.in-Fun.ensures.view) in
    rw (part, c.fill_answers.ensures) (bytes_of_map (g.T.Sources.reading c.args.sources.now).stated (t.answer c.args.leaf.0) _)

pub returns-in-Src-clause-reads : goal.returns-in-Src-clause-reads
returns-in-Src-clause-reads g c =
    let n = length c.args.buffer.now in
    let t = g.S.NodeSpace.table c.args.space.now in
    let same : (k : ℕ) → k < n → cell_at t c.args.leaf.0 (c.args.start + k) ≡ Place c.in-Src.s (c.in-Src.a + c.args.start + k) =
    λ k lt. source_cell t c.node.ensures.sound c.args.leaf.0 (c.args.start + k) c.in-Src.s c.in-Src.a c.requires.there (omega (arith, lt, c.requires.inside)) (sym c.in-Src.ensures.view) ∙ ap (Place c.in-Src.s) (omega arith) in
    moved _ _ (cell_at t c.args.leaf.0) (Place c.in-Src.s) c.args.start (c.in-Src.a + c.args.start) n c.fill_source.result same c.fill_source.ensures.reads
