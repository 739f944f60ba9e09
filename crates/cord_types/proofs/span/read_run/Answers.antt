use Rattle.std.proofs.Common.{◌≡◌, ◌++◌, ℕ, min, length, take, drop, sym, ap, subst, ◌∙◌, arith}
use Rattle.std.specs.Prelude.{Err}
use Rattle.std.proofs.lemmas.List.{length-take, take-append-le, take_all}
use Rattle.std.proofs.lemmas.Result.{err_from_is_err_and}
use Rattle.rope_node.specs.Denotes.{cell_at, cells}
use Rattle.cord_position.specs.Fetched.{rope_cell}
use Rattle.cord_position.specs.Runs.{AreBytesOf, run_left, span_len}
use Rattle.cord_position.proofs.LeafParts.{moved, run_cells, run_part}
use Rattle.cord_types.proofs.span.read_run.Goals as goal

pub returns-in_ok-fill_part-clause-bytes : goal.returns-in_ok-fill_part-clause-bytes
returns-in_ok-fill_part-clause-bytes g c =
    let t = g.S.NodeSpace.table c.args.space.now in
    let st = (g.T.Sources.reading c.args.sources.now).stated in
    let n = c.min-n.result in
    let x = c.in-Some.span in
    let filled = c.fill_part.new.buffer in
    let long : length (take n c.args.buffer.now) ≡ n = omega (arith, length-take n c.args.buffer.now, c.min-n.ensures) in
    let part = run_part t c.args.rope c.args.place n x c.in-Some.ensures.run (omega (arith, c.min-n.ensures)) in
    let there : AreBytesOf st (take n (drop x.start (cells t x.leaf.0))) filled = subst (λ (m : ℕ). AreBytesOf st (take m (drop x.start (cells t x.leaf.0))) filled) long c.in_ok-fill_part.ensures.bytes in
    let whole : length filled ≡ n = c.in_ok-fill_part.ensures.length ∙ long in
    let front : take n (filled ++ drop n c.args.buffer.now) ≡ filled = take-append-le n filled (drop n c.args.buffer.now) (omega (arith, whole)) ∙ take_all n filled (omega (arith, whole)) in
    rw front (subst (λ cs. AreBytesOf st cs filled) (sym part) there)

pub returns-in_err-fill_part-clause-reads : goal.returns-in_err-fill_part-clause-reads
returns-in_err-fill_part-clause-reads g c =
    let t = g.S.NodeSpace.table c.args.space.now in
    let n = c.min-n.result in
    let x = c.in-Some.span in
    let many : min (run_left t c.args.rope c.args.place) (length c.args.buffer.now) ≡ n = rw (← ap span_len c.in-Some.ensures.exact) (sym c.min-n.ensures) in
    let long : length (take n c.args.buffer.now) ≡ n = omega (arith, length-take n c.args.buffer.now, c.min-n.ensures) in
    let reads = rw long at c.in_err-fill_part.ensures.reads in
    let p = err_from_is_err_and c.from_residual.result c.from_residual.ensures.1 in
    rw (p.1, p.2, many) (moved {X = ℕ} _ _ (rope_cell t c.args.rope) (cell_at t x.leaf.0) c.args.place x.start n (Err c.in_err-fill_part.field-0.0)
    (λ k lt. run_cells t c.args.rope c.args.place x c.in-Some.ensures.run k (omega (arith, lt, c.min-n.ensures))) reads)
