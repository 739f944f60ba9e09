use Rattle.std.specs.Prelude.{Err}
use Rattle.cord_position.specs.Fetched.{rope_cell}
use Rattle.std.proofs.Common.{◌≡◌, ◌↔◌, ◌+◌, ◌<◌, ◌≤◌, ℕ, min, true, List, length, take, drop, sym, subst, ◌∙◌, arith}
use Rattle.std.proofs.lemmas.Bool.{not-true, not-false}
use Rattle.std.proofs.lemmas.Result.{err_from_is_err_and}
use Rattle.lazy_file.proofs.LaterReads.{same_stated}
use Rattle.rope_node.specs.Denotes.{rope_cells, text}
use Rattle.cord_search.specs.Reached.{StandsAtPlace}
use Rattle.cord_search.proofs.Fetches.{text_length}
use Rattle.cord_search.proofs.Reaching.{later_place, failed_there, first_there, valid_there}
use Rattle.cord_search.proofs.Orders.{order_equal, order_other, positive, rest_differs, rest_same, rest_ended, rest_none}
use Rattle.cord_search.proofs.TwoSpans.{first_read, second_read}
use Rattle.cord_search.proofs.compare.ncmp.Goals as goal

pub returns-in_err-left-clause-reads : goal.returns-in_err-left-clause-reads
returns-in_err-left-clause-reads g c =
    let p = err_from_is_err_and c.from_residual.result c.from_residual.ensures.1 in
    let t = g.S.NodeSpace.table c.args.space.now in
    let n : ℕ = c.min-most.result in
    let h = failed_there (g.T.Sources.reading c.args.sources.now) (g.T.Sources.reading c.loop-k.sources) (g.T.Sources.reading c.next_run.new.sources) g.S.NodeSpace.table c.loop-k.first c.args.space.now c.args.x
    c.args.i (c.args.i + c.args.n) (c.args.i + c.loop-k.k) n c.in_err-left.field-0.0 c.loop-k.invariant.reads c.loop-k.invariant.at_first (sym c.rope_len.ensures.cells ∙ c.rope_len.ensures.exact) c.in_err-left.ensures.reads
    (omega arith) (omega (arith, c.min-most.ensures, c.loop-k.invariant.inside)) in
    rw (p.1, p.2) (first_read {X = Unit {0}} (g.T.Sources.reading c.args.sources.now) (g.T.Sources.reading c.next_run.new.sources) (rope_cell t c.args.x) c.args.i (rope_cell t c.args.y) c.args.j c.args.n (Err c.in_err-left.field-0.0) h)

pub returns-in_err-right-clause-reads : goal.returns-in_err-right-clause-reads
returns-in_err-right-clause-reads g c =
    let p = err_from_is_err_and c.from_residual-in_err-right.result c.from_residual-in_err-right.ensures.1 in
    let t = g.S.NodeSpace.table c.args.space.now in
    let n : ℕ = c.min-most.result in
    let h = failed_there (g.T.Sources.reading c.args.sources.now) (g.T.Sources.reading c.next_run.new.sources) (g.T.Sources.reading c.next_run-in-loop-k.new.sources) g.S.NodeSpace.table c.loop-k.second c.args.space.now c.args.y
    c.args.j (c.args.j + c.args.n) (c.args.j + c.loop-k.k) n c.in_err-right.field-0.0 (c.in_ok-left.ensures.reads ∙ c.loop-k.invariant.reads) c.loop-k.invariant.at_second (sym c.rope_len-2.ensures.cells ∙ c.rope_len-2.ensures.exact) c.in_err-right.ensures.reads
    (omega arith) (omega (arith, c.min-most.ensures, c.loop-k.invariant.inside)) in
    rw (p.1, p.2) (second_read {X = Unit {0}} (g.T.Sources.reading c.args.sources.now) (g.T.Sources.reading c.next_run-in-loop-k.new.sources) (rope_cell t c.args.x) c.args.i (rope_cell t c.args.y) c.args.j c.args.n (Err c.in_err-right.field-0.0) h)

pub returns-then-most-eq0-clause-order : goal.returns-then-most-eq0-clause-order
returns-then-most-eq0-clause-order g c source agrees m le first second which =
    let t = g.S.NodeSpace.table c.args.space.now in
    let k : ℕ = c.loop-k.k in
    let u = text source (rope_cells t c.args.x) in
    let v = text source (rope_cells t c.args.y) in
    let so_far = c.loop-k.invariant.told source agrees m le first second in
    let long = sym (text_length t c.args.x source ∙ sym c.rope_len.ensures.cells ∙ c.rope_len.ensures.exact) in
    let wide = sym (text_length t c.args.y source ∙ sym c.rope_len-2.ensures.cells ∙ c.rope_len-2.ensures.exact) in
    let some = valid_there g.S.NodeSpace.table c.loop-k.first c.args.space.now c.args.x (c.args.i + k) c.valid.result c.loop-k.invariant.at_first c.valid.ensures in
    let more = valid_there g.S.NodeSpace.table c.loop-k.second c.args.space.now c.args.y (c.args.j + k) c.valid-then-most-eq0.result c.loop-k.invariant.at_second c.valid-then-most-eq0.ensures in
    let one : c.valid.result ≡ true → c.valid-then-most-eq0.result ≡ true → ⊥ = λ yes also.
    absurd (omega (arith, c.run_left.ensures.some (c.valid.ensures.0 yes), c.run_left-in-loop-k.ensures.some (c.valid-then-most-eq0.ensures.0 also), c.min.ensures, c.min-most.ensures, c.if-most-eq0.true, c.loop-k-test.true)) in
    c.cmp.ensures ∙ rest_ended u v c.valid.result c.valid-then-most-eq0.result c.args.i c.args.j c.args.n m k c.loop-k-test.true one
    (subst (λ (l : ℕ). (c.valid.result ≡ true) ↔ (c.args.i + k < l)) long some) (subst (λ (l : ℕ). (c.valid-then-most-eq0.result ≡ true) ↔ (c.args.j + k < l)) wide more) which so_far

pub returns-then-ne-clause-order : goal.returns-then-ne-clause-order
returns-then-ne-clause-order g c source agrees m le first second which =
    let t = g.S.NodeSpace.table c.args.space.now in
    let st = (g.T.Sources.reading c.args.sources.now).stated in
    let k : ℕ = c.loop-k.k in
    let u = text source (rope_cells t c.args.x) in
    let v = text source (rope_cells t c.args.y) in
    let left : List ℕ = c.in_ok-left.left.now in
    let right : List ℕ = c.in_ok-right.right.now in
    let count : ℕ = c.compare_runs-count.result.0 in
    let is : count ≡ min (length left) (length right) = c.compare_runs-count.ensures.count in
    let so_far = c.loop-k.invariant.told source agrees m le first second in
    let firsts : (b : ℕ) → b ≤ count → k + b ≤ m → take b left ≡ take b (drop (c.args.i + k) u) = λ b few below.
    first_there g.S.NodeSpace.table c.loop-k.first c.args.space.now c.args.x (c.args.i + k) b st (g.T.Sources.reading c.loop-k.sources).stated left source c.loop-k.invariant.at_first c.in_ok-left.ensures.inside c.in_ok-left.ensures.bytes
    (same_stated c.loop-k.invariant.reads) agrees (omega (arith, few, is)) (λ p above under. first p (omega (arith, above)) (omega (arith, under, below))) in
    let seconds : (b : ℕ) → b ≤ count → k + b ≤ m → take b right ≡ take b (drop (c.args.j + k) v) = λ b few below.
    first_there g.S.NodeSpace.table c.loop-k.second c.args.space.now c.args.y (c.args.j + k) b st (g.T.Sources.reading c.next_run.new.sources).stated right source c.loop-k.invariant.at_second c.in_ok-right.ensures.inside c.in_ok-right.ensures.bytes
    ((same_stated c.in_ok-left.ensures.reads) ∙ (same_stated c.loop-k.invariant.reads)) agrees (omega (arith, few, is)) (λ p above under. second p (omega (arith, above)) (omega (arith, under, below))) in
    let result = c.compare_runs-count.ensures.order in
    let other = order_other c.compare_runs-count.result.1 (not-true _ (sym c.ne.ensures ∙ c.if-ne.true)) in
    result ∙ rest_differs u v left right c.args.i c.args.j c.args.n m k count le c.loop-k-test.true (omega (arith, is)) (omega (arith, is)) (omega (arith, is, c.in_ok-left.ensures.most, c.min-most.ensures)) firsts seconds (λ e. other (result ∙ e)) which so_far

pub returns-then-ne-clause-reads : goal.returns-then-ne-clause-reads
returns-then-ne-clause-reads g c =
    c.in_ok-right.ensures.reads ∙ c.in_ok-left.ensures.reads ∙ c.loop-k.invariant.reads

pub loop-k-smaller : goal.loop-k-smaller
loop-k-smaller g c =
    let many = positive c.min-most.result c.if-most-eq0.false in
    let left = c.in_ok-left.ensures.some (omega (arith, many, c.run_left.ensures.inside, c.min.ensures, c.min-most.ensures)) many in
    let right = c.in_ok-right.ensures.some (omega (arith, many, c.run_left-in-loop-k.ensures.inside, c.min.ensures, c.min-most.ensures)) many in
    omega (arith, left, right, c.compare_runs-count.ensures.count, c.loop-k-test.true)

pub loop-k-preserved : goal.loop-k-preserved
loop-k-preserved g c = record {
  reads = c.in_ok-right.ensures.reads ∙ c.in_ok-left.ensures.reads ∙ c.loop-k.invariant.reads;
  inside = omega (arith, c.compare_runs-count.ensures.count, c.in_ok-left.ensures.most, c.min-most.ensures, c.loop-k.invariant.inside);
  at_first = (let at = later_place g.S.NodeSpace.table c.loop-k.first c.skip.new.self c.args.space.now c.args.x (c.args.i + c.loop-k.k) c.compare_runs-count.result.0 c.skip.ensures.space c.skip.ensures.rope c.skip.ensures.index c.loop-k.invariant.at_first in
      subst (λ (p : ℕ). StandsAtPlace g.S.NodeSpace.table c.skip.new.self c.args.space.now c.args.x p) (omega arith) at);
  at_second = (let at = later_place g.S.NodeSpace.table c.loop-k.second c.skip-in-loop-k.new.self c.args.space.now c.args.y (c.args.j + c.loop-k.k) c.compare_runs-count.result.0 c.skip-in-loop-k.ensures.space c.skip-in-loop-k.ensures.rope c.skip-in-loop-k.ensures.index c.loop-k.invariant.at_second in
      subst (λ (p : ℕ). StandsAtPlace g.S.NodeSpace.table c.skip-in-loop-k.new.self c.args.space.now c.args.y p) (omega arith) at);
  told = λ source agrees m le first second.
      let t = g.S.NodeSpace.table c.args.space.now in
      let st = (g.T.Sources.reading c.args.sources.now).stated in
      let k : ℕ = c.loop-k.k in
      let u = text source (rope_cells t c.args.x) in
      let v = text source (rope_cells t c.args.y) in
      let left : List ℕ = c.in_ok-left.left.now in
      let right : List ℕ = c.in_ok-right.right.now in
      let count : ℕ = c.compare_runs-count.result.0 in
      let is : count ≡ min (length left) (length right) = c.compare_runs-count.ensures.count in
      let so_far = c.loop-k.invariant.told source agrees m le first second in
      let firsts : (b : ℕ) → b ≤ count → k + b ≤ m → take b left ≡ take b (drop (c.args.i + k) u) = λ b few below.
      first_there g.S.NodeSpace.table c.loop-k.first c.args.space.now c.args.x (c.args.i + k) b st (g.T.Sources.reading c.loop-k.sources).stated left source c.loop-k.invariant.at_first c.in_ok-left.ensures.inside c.in_ok-left.ensures.bytes
      (same_stated c.loop-k.invariant.reads) agrees (omega (arith, few, is)) (λ p above under. first p (omega (arith, above)) (omega (arith, under, below))) in
      let seconds : (b : ℕ) → b ≤ count → k + b ≤ m → take b right ≡ take b (drop (c.args.j + k) v) = λ b few below.
      first_there g.S.NodeSpace.table c.loop-k.second c.args.space.now c.args.y (c.args.j + k) b st (g.T.Sources.reading c.next_run.new.sources).stated right source c.loop-k.invariant.at_second c.in_ok-right.ensures.inside c.in_ok-right.ensures.bytes
      ((same_stated c.in_ok-left.ensures.reads) ∙ (same_stated c.loop-k.invariant.reads)) agrees (omega (arith, few, is)) (λ p above under. second p (omega (arith, above)) (omega (arith, under, below))) in
      let equal = sym c.compare_runs-count.ensures.order ∙ order_equal c.compare_runs-count.result.1 (not-false _ (sym c.ne.ensures ∙ c.if-ne.false)) in
      rest_same u v left right c.args.i c.args.j m k count (omega (arith, is)) (omega (arith, is)) firsts seconds equal so_far;
}

pub returns-clause-order : goal.returns-clause-order
returns-clause-order g c source agrees m le first second which =
    let t = g.S.NodeSpace.table c.args.space.now in
    sym (rest_none (text source (rope_cells t c.args.x)) (text source (rope_cells t c.args.y)) c.args.i c.args.j m c.loop-k.k (omega (arith, le, c.loop-k-test.false)) (c.loop-k.invariant.told source agrees m le first second))
