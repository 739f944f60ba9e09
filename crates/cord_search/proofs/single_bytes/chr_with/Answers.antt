use Rattle.std.proofs.Common.{◌≡◌, ◌+◌, ◌-◌, ◌<◌, ℕ, List, length, ◌∷◌, [], inl, inr, refl, sym, ◌∙◌, arith}
use Rattle.std.specs.Prelude.{slice_get}
use Rattle.std.proofs.lemmas.Bool.{cases_lt}
use Rattle.std.proofs.lemmas.Result.{err_from_is_err_and}
use Rattle.lazy_file.proofs.LaterReads.{same_stated}
use Rattle.rope_node.specs.Denotes.{rope_cells, rope_len, text}
use Rattle.cord_search.proofs.BytePieces.{byte_found, no_byte_in, nowhere_in_both}
use Rattle.cord_search.proofs.Fetches.{text_length}
use Rattle.cord_search.proofs.Reaching.{byte_there, failed_there, later_place, there_len}
use Rattle.cord_search.proofs.Repeats.{clear_there}
use Rattle.cord_search.proofs.Standing.{none_past}
use Rattle.cord_search.proofs.single_bytes.chr_with.Goals as goal

pub returns-in_err-run-clause-reads : goal.returns-in_err-run-clause-reads
returns-in_err-run-clause-reads g c =
    let p = err_from_is_err_and c.from_residual.result c.from_residual.ensures.1 in
    let t = g.S.NodeSpace.table c.args.space.now in
    let place : ℕ = c.loop-place.place in
    let n : ℕ = c.rope_len-len.result - place in
    rw (p.1, p.2) (failed_there (g.T.Sources.reading c.args.sources.now) (g.T.Sources.reading c.loop-place.sources) (g.T.Sources.reading c.next_run.new.sources) g.S.NodeSpace.table c.loop-place.pos c.args.space.now c.args.x
    c.args.i (rope_len t c.args.x) place n c.in_err-run.field-0.0 c.loop-place.invariant.reads c.loop-place.invariant.at (sym c.rope_len-len.ensures.cells ∙ c.rope_len-len.ensures.exact) c.in_err-run.ensures.reads
    c.loop-place.invariant.from (omega (arith, c.loop-place-test.true, c.rope_len-len.ensures.exact)))

pub returns-in-Some-clause-found : goal.returns-in-Some-clause-found
returns-in-Some-clause-found g c source agrees stated =
    let t = g.S.NodeSpace.table c.args.space.now in
    let st = (g.T.Sources.reading c.args.sources.now).stated in
    let u = text source (rope_cells t c.args.x) in
    let place : ℕ = c.loop-place.place in
    let run : List ℕ = c.in_ok-run.run'.now in
    let k : ℕ = c.in-Some.k in
    let found = c.in-Some.ensures in
    let same : (p : ℕ) → p < k + 1 → slice_get run p ≡ slice_get u (place + p) = λ p lt.
    byte_there g.S.NodeSpace.table c.loop-place.pos c.args.space.now c.args.x place p st (g.T.Sources.reading c.loop-place.sources).stated run source c.loop-place.invariant.at c.in_ok-run.ensures.inside c.in_ok-run.ensures.bytes
    (same_stated c.loop-place.invariant.reads) agrees (omega (arith, lt, found.0.high)) (stated (place + p) (omega (arith, c.loop-place.invariant.from)) (omega (arith, lt))) in
    let before = c.loop-place.invariant.told source agrees (λ p above below. stated p above (omega (arith, below))) in
    let none = no_byte_in u run place c.args.c 0 k found.0.before (λ p low high. same p (omega (arith, high))) in
    record {
      from = omega (arith, c.loop-place.invariant.from);
      stands = byte_found u run place c.args.c k found.0.high found.1 (same k (omega arith));
      none_before = nowhere_in_both (c.args.c ∷ []) u c.args.i place (place + k) before (λ j above. none j (omega (arith, above)));
    }

pub loop-place-preserved : goal.loop-place-preserved
loop-place-preserved g c =
    let t = g.S.NodeSpace.table c.args.space.now in
    let place : ℕ = c.loop-place.place in
    let run : List ℕ = c.in_ok-run.run'.now in
    let clear : ℕ = c.clear_ahead-clear.result in
    let len = there_len g.S.NodeSpace.table c.loop-place.pos c.args.space.now c.args.x place c.loop-place.invariant.at in
    let left : place < rope_len t c.args.x = omega (arith, c.loop-place-test.true, c.rope_len-len.ensures.exact) in
    record {
      reads = c.in_ok-run.ensures.reads ∙ c.loop-place.invariant.reads;
      from = omega (arith, c.loop-place.invariant.from);
      inside = omega (arith, c.clear_ahead-clear.ensures.inside, c.loop-place.invariant.at.index, len, left);
      at = later_place g.S.NodeSpace.table c.loop-place.pos c.skip.new.self c.args.space.now c.args.x place clear c.skip.ensures.space c.skip.ensures.rope c.skip.ensures.index c.loop-place.invariant.at;
      told = λ source agrees stated.
          let st = (g.T.Sources.reading c.args.sources.now).stated in
          let u = text source (rope_cells t c.args.x) in
          let same : (p : ℕ) → p < length run → slice_get run p ≡ slice_get u (place + p) = λ p lt.
          byte_there g.S.NodeSpace.table c.loop-place.pos c.args.space.now c.args.x place p st (g.T.Sources.reading c.loop-place.sources).stated run source c.loop-place.invariant.at c.in_ok-run.ensures.inside c.in_ok-run.ensures.bytes
          (same_stated c.loop-place.invariant.reads) agrees lt (stated (place + p) (omega (arith, c.loop-place.invariant.from)) (omega (arith, lt, c.clear_ahead-clear.ensures.more))) in
          let before = c.loop-place.invariant.told source agrees (λ p above below. stated p above (omega (arith, below))) in
          let none = no_byte_in u run place c.args.c 0 (length run) c.in_default.ensures (λ p low high. same p high) in
          let also = clear_there g.S.NodeSpace.table c.loop-place.pos c.args.space.now c.args.x place 1 (length run) clear c.loop-place.invariant.at left c.clear_ahead-clear.ensures.clear in
          nowhere_in_both (c.args.c ∷ []) u c.args.i place (place + clear) before (also source (c.args.c ∷ []) refl (λ j above. none j (omega (arith, above))));
    }

pub returns-clause-found : goal.returns-clause-found
returns-clause-found g c source agrees stated =
    let t = g.S.NodeSpace.table c.args.space.now in
    let u = text source (rope_cells t c.args.x) in
    let long = text_length t c.args.x source in
    elim (cases_lt c.args.i c.rope_len-len.result) [
      | inl lt ↦ none_past (c.args.c ∷ []) u c.args.i c.loop-place.place
          (c.loop-place.invariant.told source agrees (λ p above below. stated p above (omega (arith, below, lt, c.loop-place.invariant.inside, c.rope_len-len.ensures.exact))))
          (omega (arith, long, c.rope_len-len.ensures.cells, c.loop-place-test.false))
      | inr past ↦ λ j from stands. absurd (omega (arith, long, past, from, stands.inside, c.rope_len-len.ensures.cells))
    ]
