use Rattle.std.proofs.Common.{◌≡◌, length, sym, ◌∙◌, arith}
use Rattle.rope_node.specs.Denotes.{rope_cells, text}
use Rattle.cord_search.proofs.Fetches.{text_length}
use Rattle.text_lines.proofs.KnownLaws.{known_end}
use Rattle.text_lines.proofs.lines.line_end.Goals as goal

pub returns-in-Some-clause-is : goal.returns-in-Some-clause-is
returns-in-Some-clause-is g c source agrees stated =
    let t = g.S.NodeSpace.table c.args.space.now in
    let u = text source (rope_cells t c.args.rope) in
    let long : length u ≡ c.rope_len-len.result = text_length t c.args.rope source ∙ sym c.rope_len-len.ensures.cells in
    let end = known_end u c.args.known.now c.args.place c.in-Some.line c.in-Some.ensures.holds (c.requires.known source agrees stated) in
    omega (arith, c.min.ensures, end.0, end.1, long)
