use Rattle.std.specs.Prelude.{Err}
use Rattle.std.proofs.Common.{◌+◌, ◌≤◌, length, take, drop, inl, inr, refl, sym, subst, ◌∙◌, arith}
use Rattle.std.proofs.lemmas.Bool.{cases_lt, eqb-false}
use Rattle.std.proofs.lemmas.List.{length-take, take-append-le}
use Rattle.std.proofs.lemmas.Result.{err_from_is_err_and}
use Rattle.cord_position.specs.Position.{cell_of}
use Rattle.cord_position.proofs.Spans.{failed_in}
use Rattle.cord_search.specs.Pieces.{IsPieceHere}
use Rattle.cord_search.proofs.Pieces.{literal_piece}
use Rattle.cord_search.proofs.runs.next_run.Goals as goal

pub returns-then-not-is_empty-clause-bytes : goal.returns-then-not-is_empty-clause-bytes
returns-then-not-is_empty-clause-bytes g c =
    let here = c.args.pos.now in
    let run = c.run_bytes-run.result.now in
    let some : 1 ≤ length run = elim (cases_lt 0 (length run)) [
      | inl lt ↦ lt
      | inr none ↦ absurd (eqb-false (length run) 0 (sym c.is_empty.ensures ∙ c.if-not-is_empty.true) (omega (arith, none)))
    ] in
    literal_piece (g.S.NodeSpace.table here.space) (g.T.Sources.reading c.args.sources.now).stated here.rope here.index _ c.min-n.result run (c.run_bytes-run.ensures.cells some)

pub returns-in_err-n-clause-reads : goal.returns-in_err-n-clause-reads
returns-in_err-n-clause-reads g c =
    let p = err_from_is_err_and c.from_residual.result c.from_residual.ensures.1 in
    let here = c.args.pos.now in
    let part = take c.min-n-2.result c.args.buffer.now in
    rw (p.1, p.2) (failed_in {X = Unit {0}} (g.T.Sources.reading c.args.sources.now) (g.T.Sources.reading c.args.sources.now) (g.T.Sources.reading c.fill_run.new.sources) (cell_of g.S.NodeSpace.table here) here.index (here.index + c.args.most)
    here.index (here.index + length part) (Err c.in_err-n.field-0.0) refl c.in_err-n.ensures.reads
    (omega arith) (omega (arith, c.min-most.ensures, c.min-n-2.ensures, length-take c.min-n-2.result c.args.buffer.now)))

pub returns-clause-bytes : goal.returns-clause-bytes
returns-clause-bytes g c =
    let here = c.args.pos.now in
    let n = c.in_ok-n.n in
    let filled = c.fill_run.new.buffer in
    let rest = drop c.min-n-2.result c.args.buffer.now in
    let inside : n ≤ length filled = omega (arith, c.in_ok-n.ensures.most, c.in_ok-n.ensures.length) in
    subst (IsPieceHere g.S.NodeSpace.table (g.T.Sources.reading c.args.sources.now).stated here) (sym (take-append-le n filled rest inside)) c.in_ok-n.ensures.bytes
