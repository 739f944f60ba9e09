use Rattle.std.specs.Prelude.{Err}
use Rattle.std.proofs.Common.{◌≡◌, ◌+◌, ◌-◌, ◌<◌, ◌≤◌, ℕ, List, length, ◌∷◌, [], refl, subst, ◌∙◌, arith}
use Rattle.std.specs.Prelude.{slice_get}
use Rattle.std.proofs.lemmas.Result.{err_from_is_err_and}
use Rattle.lazy_file.proofs.LaterReads.{same_stated}
use Rattle.rope_node.specs.Denotes.{rope_cells, text}
use Rattle.cord_position.specs.Fetched.{rope_cell}
use Rattle.cord_position.proofs.Spans.{failed_in}
use Rattle.cord_search.specs.Pieces.{IsPiece}
use Rattle.cord_search.proofs.BytePieces.{byte_found, no_byte_in, nowhere_up_to}
use Rattle.cord_search.proofs.single_bytes.rchr.Goals as goal

pub returns-in_err-window-clause-reads : goal.returns-in_err-window-clause-reads
returns-in_err-window-clause-reads g c =
    let p = err_from_is_err_and c.from_residual.result c.from_residual.ensures.1 in
    let from : ℕ = c.saturating_sub-from.result in
    rw (p.1, p.2) (failed_in {X = Unit {0}} (g.T.Sources.reading c.args.sources.now) (g.T.Sources.reading c.loop-end.sources) (g.T.Sources.reading c.part_of.new.sources) (rope_cell (g.S.NodeSpace.table c.args.space.now) c.args.x)
    0 (c.args.i + 1) from (from + (c.loop-end.end - from)) (Err c.in_err-window.field-0.0) c.loop-end.invariant.reads c.in_err-window.ensures.reads
    (omega arith) (omega (arith, c.loop-end.invariant.until, c.saturating_sub-from.ensures)))

pub returns-in-Some-clause-found : goal.returns-in-Some-clause-found
returns-in-Some-clause-found g c source agrees stated =
    let t = g.S.NodeSpace.table c.args.space.now in
    let u = text source (rope_cells t c.args.x) in
    let from : ℕ = c.saturating_sub-from.result in
    let end : ℕ = c.loop-end.end in
    let window : List ℕ = c.in_ok-window.window.now in
    let k : ℕ = c.in-Some.k in
    let found = c.in-Some.ensures in
    let long : from + length window ≡ end = omega (arith, c.in_ok-window.ensures.count, c.saturating_sub-from.ensures) in
    let piece = subst (λ st. IsPiece t st c.args.x from window) (same_stated c.loop-end.invariant.reads) c.in_ok-window.ensures.bytes in
    let same : (p : ℕ) → k ≤ p → p < length window → slice_get window p ≡ slice_get u (from + p) =
    λ p low lt. piece source agrees p lt (stated (from + p) (omega (arith, low)) (omega (arith, lt, long, c.loop-end.invariant.until))) in
    let after = c.loop-end.invariant.told source agrees (λ p above below. stated p (omega (arith, above, long, found.0.high)) (omega (arith, below))) in
    let none = no_byte_in u window from c.args.c (k + 1) (length window) found.0.after (λ p low high. same p (omega (arith, low)) high) in
    record {
      until = omega (arith, c.loop-end.invariant.until, long, found.0.high);
      stands = byte_found u window from c.args.c k found.0.high found.1 (same k (omega arith) found.0.high);
      none_after = λ j above. nowhere_up_to (c.args.c ∷ []) u (from + (k + 1)) end c.args.i (λ j' low high. none j' low (omega (arith, high, long))) after j (omega (arith, above));
    }

pub loop-end-preserved : goal.loop-end-preserved
loop-end-preserved g c =
    let t = g.S.NodeSpace.table c.args.space.now in
    let from : ℕ = c.saturating_sub-from.result in
    let end : ℕ = c.loop-end.end in
    let clear : ℕ = c.clear_behind-end.result in
    let behind : clear ≤ from = c.clear_behind-end.ensures.before in
    record {
      reads = c.in_ok-window.ensures.reads ∙ c.loop-end.invariant.reads;
      until = omega (arith, c.loop-end.invariant.until, c.saturating_sub-from.ensures, behind);
      inside = omega (arith, c.loop-end.invariant.inside, c.saturating_sub-from.ensures, behind);
      told = λ source agrees stated.
          let u = text source (rope_cells t c.args.x) in
          let window : List ℕ = c.in_ok-window.window.now in
          let long : from + length window ≡ end = omega (arith, c.in_ok-window.ensures.count, c.saturating_sub-from.ensures) in
          let piece = subst (λ st. IsPiece t st c.args.x from window) (same_stated c.loop-end.invariant.reads) c.in_ok-window.ensures.bytes in
          let same : (p : ℕ) → 0 ≤ p → p < length window → slice_get window p ≡ slice_get u (from + p) =
          λ p low lt. piece source agrees p lt (stated (from + p) (omega (arith, behind)) (omega (arith, lt, long, c.loop-end.invariant.until))) in
          let after = c.loop-end.invariant.told source agrees (λ p above below. stated p (omega (arith, above, long, behind)) (omega (arith, below))) in
          let none = no_byte_in u window from c.args.c 0 (length window) c.in_default.ensures same in
          let also = c.clear_behind-end.ensures.clear source (c.args.c ∷ []) refl (λ j low high. none j (omega (arith, low)) (omega (arith, high, long))) in
          nowhere_up_to (c.args.c ∷ []) u clear end c.args.i (λ j low high. also j low (omega (arith, high, long))) after;
    }

pub returns-clause-found : goal.returns-clause-found
returns-clause-found g c source agrees stated j until =
    c.loop-end.invariant.told source agrees (λ p above below. stated p (omega arith) (omega (arith, below))) j (omega (arith, c.loop-end-test.false)) until
