use Rattle.std.specs.Prelude.{Err}
use Rattle.std.proofs.Common.{◌≡◌, ◌+◌, ◌∙◌, Some, length, take, refl, sym, subst, arith}
use Rattle.std.proofs.lemmas.List.{length-take, take_at}
use borrow.Rule.Slice.PartMut.{post_of}
use Rattle.std.proofs.lemmas.Result.{err_from_is_err_and}
use Rattle.cord_position.specs.Position.{cell_of}
use Rattle.cord_position.proofs.Spans.{failed_in}
use Rattle.cord_search.specs.Pieces.{IsPieceHere}
use Rattle.cord_search.proofs.Pieces.{literal_piece}
use Rattle.cord_search.proofs.Reaching.{piece_back, reads_back}
use Rattle.cord_search.proofs.runs.next_window.Goals as goal

pub returns-then-run-need-clause-bytes : goal.returns-then-run-need-clause-bytes
returns-then-run-need-clause-bytes g c =
    let here = c.args.pos.now in
    literal_piece (g.S.NodeSpace.table here.space) (g.T.Sources.reading c.args.sources.now).stated here.rope here.index _ c.min-n.result c.run_bytes-run.result.now
    (c.run_bytes-run.ensures.cells (omega (arith, c.requires.need, c.if-run-need.true)))

pub returns-in_err-gather-in-Some-clause-reads : goal.returns-in_err-gather-in-Some-clause-reads
returns-in_err-gather-in-Some-clause-reads g c =
    let p = err_from_is_err_and c.from_residual.result c.from_residual.ensures.1 in
    let here = c.args.pos.now in
    let part = take c.min-n-2.result c.args.buffer.now in
    let there = reads_back {X = Unit {0}} (g.T.Sources.reading c.args.sources.now) (g.T.Sources.reading c.gather.new.sources) g.S.NodeSpace.table here c.args.space.now (Some c.in-Some.node) c.index.result (length part) (Err c.in_err-gather-in-Some.field-0.0)
    c.requires.here.0 (c.requires.here.1 ∙ c.in-Some.is) c.index.ensures.index c.in_err-gather-in-Some.ensures.reads in
    rw (p.1, p.2) (failed_in {X = Unit {0}} (g.T.Sources.reading c.args.sources.now) (g.T.Sources.reading c.args.sources.now) (g.T.Sources.reading c.gather.new.sources) (cell_of g.S.NodeSpace.table here) here.index (here.index + c.args.most)
    here.index (here.index + length part) (Err c.in_err-gather-in-Some.field-0.0) refl there
    (omega arith) (omega (arith, c.min-n-2.ensures, length-take c.min-n-2.result c.args.buffer.now)))

pub returns-clause-bytes : goal.returns-clause-bytes
returns-clause-bytes g c =
    let here = c.args.pos.now in
    let st = (g.T.Sources.reading c.args.sources.now).stated in
    let n = c.min-n-2.result in
    let filled = c.gather.new.buffer in
    let whole : length filled ≡ n = omega (arith, c.in_ok-gather-in-Some.ensures.length, length-take n c.args.buffer.now, c.min-n-2.ensures) in
    let piece = piece_back g.S.NodeSpace.table here c.args.space.now (Some c.in-Some.node) c.index.result st filled c.requires.here.0 (c.requires.here.1 ∙ c.in-Some.is) c.index.ensures.index c.in_ok-gather-in-Some.ensures.bytes in
    subst (IsPieceHere g.S.NodeSpace.table st here) (sym (take_at filled (post_of 0 n c.args.buffer.now) n whole)) piece
