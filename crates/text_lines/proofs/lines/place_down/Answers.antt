use Rattle.std.proofs.Common.{◌≡◌, ◌+◌, ◌<◌, length, ◌∙◌, arith}
use Rattle.rope_node.specs.Denotes.{rope_cells, rope_len, text}
use Rattle.cord_search.proofs.Fetches.{text_length}
use Rattle.text_lines.specs.Lines.{line_end, line_start}
use Rattle.text_lines.proofs.LineLaws.{below_is}
use Rattle.text_lines.proofs.ToldLater.{told_then}
use Rattle.text_lines.proofs.lines.place_down.Goals as goal

pub returns-clause-is : goal.returns-clause-is
returns-clause-is g c source agrees stated =
    let t = g.S.NodeSpace.table c.args.space.now in
    let n = rope_len t c.args.rope in
    let u = text source (rope_cells t c.args.rope) in
    let p = c.args.place in
    let end = c.in_ok-end.end in
    let start = told_then t (g.T.Sources.reading c.args.sources.now) (g.T.Sources.reading c.line_end.new.sources) c.args.rope (λ u. c.in_ok-start.start ≡ line_start u p) c.in_ok-end.ensures.reads c.in_ok-start.ensures.is source agrees stated in
    let below = told_then t (g.T.Sources.reading c.args.sources.now) (g.T.Sources.reading c.line_start.new.sources) c.args.rope (λ u. c.in_ok-below.below ≡ line_end u (end + 1)) (c.in_ok-start.ensures.reads ∙ c.in_ok-end.ensures.reads) c.in_ok-below.ensures.is source agrees stated in
    let inside : end < length u = omega (arith, text_length t c.args.rope source, c.rope_len.ensures.cells, c.rope_len.ensures.exact, c.in_ok-end.ensures.inside, c.if-end-rope_len.false) in
    c.min.ensures ∙ below_is u p c.in_ok-start.start end c.in_ok-below.below start (c.in_ok-end.ensures.is source agrees stated) inside below
