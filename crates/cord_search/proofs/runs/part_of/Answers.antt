use Rattle.std.proofs.Common.{◌≡◌, length, sym, subst, arith}
use Rattle.std.proofs.lemmas.List.{length-take, take_at}
use borrow.Rule.Slice.PartMut.{post_of}
use Rattle.cord_search.specs.Pieces.{IsPiece}
use Rattle.cord_search.proofs.runs.part_of.Goals as goal

pub returns-clause-bytes : goal.returns-clause-bytes
returns-clause-bytes g c =
    let t = g.S.NodeSpace.table c.args.space.now in
    let st = (g.T.Sources.reading c.args.sources.now).stated in
    let n = c.args.count in
    let filled = c.gather.new.buffer in
    let whole : length filled ≡ n = omega (arith, c.in_ok-gather-in-Some.ensures.length, length-take n c.args.buffer.now, c.requires.count) in
    let piece : IsPiece t st c.args.x c.args.from filled = rw c.in-Some.is c.in_ok-gather-in-Some.ensures.bytes in
    subst (IsPiece t st c.args.x c.args.from) (sym (take_at filled (post_of 0 n c.args.buffer.now) n whole)) piece
