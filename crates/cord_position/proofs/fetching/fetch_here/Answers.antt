use Rattle.std.proofs.Common.{◌≡◌, ℕ, ◌+◌, ◌-◌, ◌<◌, Some, sym, subst, ap, ◌∙◌, arith}
use Rattle.std.specs.Prelude.{Err}
use Rattle.std.proofs.lemmas.Result.{err_from_is_err_and}
use Rattle.rope_node.specs.Denotes.{cell_at}
use Rattle.cord_position.specs.Fetched.{IsFetched, rope_cell}
use Rattle.leaf_buffer.specs.Progress.{leaf_of}
use Rattle.cord_position.proofs.RunLaws.{byte_here, held_here}
use Rattle.cord_position.proofs.HereLaws.{fetched_here, fetched_literal, fetched_none, here_cell}
use Rattle.cord_position.proofs.LeafParts.{moved}
use Rattle.cord_position.proofs.fetching.fetch_here.Goals as goal

pub returns-in-Some-clause-byte : goal.returns-in-Some-clause-byte
returns-in-Some-clause-byte g c =
    let t = g.S.NodeSpace.table c.args.space.now in
    let st = (g.T.Sources.reading c.args.sources.now).stated in
    let x = c.args.here in
    let run = c.args.run.now in
    let next = c.in-Some.ensures in
    subst (λ (b : ℕ). IsFetched t st c.args.rope c.args.place (Some b)) (byte_here t x c.args.place c.in-Some.byte run c.requires.run (sym next))
    (fetched_literal t st c.args.rope c.args.place x (leaf_of run) c.requires.here c.requires.run.bytes (held_here t x c.args.place c.in-Some.byte run c.requires.run (sym next)))

pub returns-then-offset-here-clause-byte : goal.returns-then-offset-here-clause-byte
returns-then-offset-here-clause-byte g c =
    fetched_none (g.S.NodeSpace.table c.args.space.now) (g.T.Sources.reading c.args.sources.now).stated c.args.rope c.args.place c.args.here c.requires.here (omega (arith, c.if-offset-here.true))

pub returns-clause-byte : goal.returns-clause-byte
returns-clause-byte g c =
    fetched_here (g.S.NodeSpace.table c.args.space.now) (g.T.Sources.reading c.args.sources.now).stated c.args.rope c.args.place c.in_ok-byte.byte c.args.here c.requires.here (omega (arith, c.if-offset-here.false)) c.in_ok-byte.ensures.byte

pub returns-in_err-byte-clause-reads : goal.returns-in_err-byte-clause-reads
returns-in_err-byte-clause-reads g c =
    let t = g.S.NodeSpace.table c.args.space.now in
    let x = c.args.here in
    let i = c.args.place in
    let p = err_from_is_err_and c.from_residual.result c.from_residual.ensures.1 in
    let here = here_cell t c.args.rope i x c.requires.here (omega (arith, c.if-offset-here.false)) in
    let start = x.skipped + (i - x.first) in
    let same : (k : ℕ) → k < 1 → rope_cell t c.args.rope (i + k) ≡ cell_at t x.node.0 (start + k) =
    λ k lt. ap (rope_cell t c.args.rope) (omega (arith, lt)) ∙ here ∙ ap (cell_at t x.node.0) (omega (arith, lt)) in
    rw (p.1, p.2) (moved {X = Unit {0}} _ _ (rope_cell t c.args.rope) (cell_at t x.node.0) i start 1 (Err c.in_err-byte.field-0.0) same c.in_err-byte.ensures.reads)
