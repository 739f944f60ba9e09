use Rattle.std.proofs.Common.{ℕ, take, drop, refl, ap, ◌∙◌, arith}
use Rattle.rope_node.specs.Denotes.{rope_cells, text}
use Rattle.cord_search.specs.Pieces.{IsPiece}
use Rattle.cord_search.proofs.Pieces.{piece_all}
use Rattle.text_lines.proofs.held.read_part.Goals as goal

pub returns-clause-bytes : goal.returns-clause-bytes
returns-clause-bytes g c source agrees stated =
    let t = g.S.NodeSpace.table c.args.space.now in
    let st = (g.T.Sources.reading c.args.sources.now).stated in
    let u = text source (rope_cells t c.args.rope) in
    let buffer = c.gather.new.buffer in
    let long = c.in_ok-gather-in-Some.ensures.length in
    let piece : IsPiece t st c.args.rope c.args.start buffer = rw c.in-Some.is c.in_ok-gather-in-Some.ensures.bytes in
    piece_all t st st c.args.rope c.args.start buffer source refl agrees piece (λ p above below. stated p (omega arith) (omega (arith, below, long, c.requires.inside))) ∙ ap (λ (m : ℕ). take m (drop c.args.start u)) long
