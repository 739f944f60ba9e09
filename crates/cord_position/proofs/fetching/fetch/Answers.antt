use Rattle.std.proofs.Common.{◌≡◌, ℕ, ◌+◌, sym, ap, ◌∙◌, Some}
use Rattle.std.specs.Prelude.{Err}
use Rattle.std.proofs.lemmas.Result.{err_from_is_err_and}
use Rattle.rope_node.specs.Denotes.{cell_at}
use Rattle.cord_position.specs.Fetched.{rope_cell}
use Rattle.cord_position.proofs.LeafParts.{moved}
use Rattle.std.proofs.Common.{◌<◌, length, subst, arith}
use Rattle.rope_node.specs.Denotes.{IsRope}
use Rattle.cord_position.specs.Fetched.{IsByteOf}
use Rattle.cord_position.proofs.RopeBytes.{fetched_inside, fetched_past}
use Rattle.cord_position.proofs.fetching.fetch.Goals as goal

pub returns-in_ok-byte-in-Some-clause-byte : goal.returns-in_ok-byte-in-Some-clause-byte
returns-in_ok-byte-in-Some-clause-byte g c =
    let t = g.S.NodeSpace.table c.args.space.now in
    let there : c.in-Some.node.0 < length t.nodes = subst (IsRope t) c.in-Some.is c.requires in
    let byte = subst (λ cell. IsByteOf (g.T.Sources.reading c.args.sources.now).stated cell c.in_ok-byte-in-Some.byte) c.find_leaf-found.ensures.cell c.in_ok-byte-in-Some.ensures.byte in
    rw c.in-Some.is (fetched_inside t c.len.ensures.sound c.len.ensures.true_records (g.T.Sources.reading c.args.sources.now).stated c.in-Some.node c.args.i c.in_ok-byte-in-Some.byte there (omega (arith, c.len.ensures.value)) byte)

pub returns-in_default-clause-byte : goal.returns-in_default-clause-byte
returns-in_default-clause-byte g c =
    let t = g.S.NodeSpace.table c.args.space.now in
    let there : c.in-Some.node.0 < length t.nodes = subst (IsRope t) c.in-Some.is c.requires in
    rw c.in-Some.is (fetched_past t c.len.ensures.sound c.len.ensures.true_records (g.T.Sources.reading c.args.sources.now).stated c.in-Some.node c.args.i there (omega (arith, c.len.ensures.value)))

pub returns-in_err-byte-in-Some-clause-reads : goal.returns-in_err-byte-in-Some-clause-reads
returns-in_err-byte-in-Some-clause-reads g c =
    let t = g.S.NodeSpace.table c.args.space.now in
    let p = err_from_is_err_and c.from_residual.result c.from_residual.ensures.1 in
    let found = c.find_leaf-found.result in
    let same : (k : ℕ) → k < 1 → rope_cell t (Some c.in-Some.node) (c.args.i + k) ≡ cell_at t found.leaf.0 (found.start + k) =
    λ k lt. ap (cell_at t c.in-Some.node.0) (omega (arith, lt)) ∙ sym c.find_leaf-found.ensures.cell ∙ ap (cell_at t found.leaf.0) (omega (arith, lt)) in
    rw (p.1, p.2, c.in-Some.is) (moved {X = Unit {0}} _ _ (rope_cell t (Some c.in-Some.node)) (cell_at t found.leaf.0) c.args.i found.start 1 (Err c.in_err-byte-in-Some.field-0.0) same c.in_err-byte-in-Some.ensures.reads)
