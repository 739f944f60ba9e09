use Rattle.std.proofs.Common.{◌≡◌, ◌+◌, ◌-◌, ◌<◌, ◌≤◌, ℕ, List, Option, Some, length, refl, sym, subst, ap, ◌∙◌, arith}
use Rattle.std.specs.Prelude.{Ok, Err}
use Rattle.std.proofs.lemmas.Result.{err_from_is_err_and}
use Rattle.rope_node.specs.declared.node.NodeId.{NodeId}
use Rattle.rope_node.specs.Denotes.{cell_at, cells, rope_cells, rope_len}
use Rattle.cord_position.specs.Fetched.{ReadsSpan, rope_cell}
use Rattle.cord_position.proofs.Spans.{failed_in}
use Rattle.cord_search.specs.Seeking.{IsSought}
use Rattle.rope_node.specs.Steps.{SameCells}
use Rattle.cord_search.specs.Stated.{FindsFirst}
use Rattle.cord_search.proofs.Looks.{same_itself, seeking_begun}
use Rattle.cord_search.proofs.Seeks.{sought_first, sought_inside}
use Rattle.cord_search.proofs.pattern.find_some.Goals as goal

pub returns-in_err-found-in-Some-clause-reads : goal.returns-in_err-found-in-Some-clause-reads
returns-in_err-found-in-Some-clause-reads g c =
    let p = err_from_is_err_and c.from_residual.result c.from_residual.ensures.1 in
    let t = g.S.NodeSpace.table c.args.space.now in
    let start : ℕ = c.args.start in
    let left : ℕ = c.rope_len-len.result - start in
    let e = c.in_err-found-in-Some.field-0.0 in
    let there = failed_in {X = Option ℕ} (g.T.Sources.reading c.args.sources.now) (g.T.Sources.reading c.args.sources.now) (g.T.Sources.reading c.look_in.new.sources) (cell_at t c.in-Some.root.0) start (rope_len t c.args.x) start (start + left) (Err e)
    refl c.in_err-found-in-Some.ensures.reads (omega arith) (omega (arith, c.rope_len-len.ensures.exact, c.if-start-len.false)) in
    rw (p.1, p.2) (subst (λ (y : Option NodeId). ReadsSpan {X = Option ℕ} (g.T.Sources.reading c.args.sources.now) (g.T.Sources.reading c.look_in.new.sources) (rope_cell t y) start (rope_len t c.args.x) (Err e)) (sym c.in-Some.is) there)

pub returns-in-Some-2-clause-inside : goal.returns-in-Some-2-clause-inside
returns-in-Some-2-clause-inside g c =
    let t = g.S.NodeSpace.table c.args.space.now in
    let st = (g.T.Sources.reading c.args.sources.now).stated in
    let root : NodeId = c.in-Some.root in
    let start : ℕ = c.args.start in
    let left : ℕ = c.rope_len-len.result - start in
    let long : length (cells t root.0) ≡ c.rope_len-len.result = sym (ap (λ (y : Option NodeId). length (rope_cells t y)) c.in-Some.is) ∙ sym c.rope_len-len.ensures.cells in
    let same = subst (λ (p : ℕ). SameCells t root root p start left) (sym c.requires.begun.0) (same_itself t root start left (omega (arith, long, c.if-start-len.false))) in
    let sought = c.in_ok-found-in-Some.ensures.sought root start same (seeking_begun t st (Some root) start c.args.seeker c.requires.begun.1 c.requires.begun.0) in
    let found = subst (λ (f : Option ℕ). IsSought t st (Some root) start c.look_in.new.seeker f) c.in-Some-2.is sought in
    sought_inside t st (Some root) start (rope_len t c.args.x) c.look_in.new.seeker c.args.seeker.finder (Some c.in-Some-2.found) (long ∙ c.rope_len-len.ensures.exact) c.in_ok-found-in-Some.ensures.pattern found

pub returns-in-Some-2-clause-found : goal.returns-in-Some-2-clause-found
returns-in-Some-2-clause-found g c =
    let t = g.S.NodeSpace.table c.args.space.now in
    let st = (g.T.Sources.reading c.args.sources.now).stated in
    let root : NodeId = c.in-Some.root in
    let start : ℕ = c.args.start in
    let left : ℕ = c.rope_len-len.result - start in
    let long : length (cells t root.0) ≡ c.rope_len-len.result = sym (ap (λ (y : Option NodeId). length (rope_cells t y)) c.in-Some.is) ∙ sym c.rope_len-len.ensures.cells in
    let same = subst (λ (p : ℕ). SameCells t root root p start left) (sym c.requires.begun.0) (same_itself t root start left (omega (arith, long, c.if-start-len.false))) in
    let sought = c.in_ok-found-in-Some.ensures.sought root start same (seeking_begun t st (Some root) start c.args.seeker c.requires.begun.1 c.requires.begun.0) in
    let found = subst (λ (f : Option ℕ). IsSought t st (Some root) start c.look_in.new.seeker f) c.in-Some-2.is sought in
    subst (λ (y : Option NodeId). FindsFirst t st y c.args.seeker.finder start (Some c.in-Some-2.found)) (sym c.in-Some.is)
    (subst (λ (s : List ℕ). FindsFirst t st (Some root) s start (Some c.in-Some-2.found)) c.in_ok-found-in-Some.ensures.pattern found.0)

pub returns-clause-inside : goal.returns-clause-inside
returns-clause-inside g c =
    let t = g.S.NodeSpace.table c.args.space.now in
    let st = (g.T.Sources.reading c.args.sources.now).stated in
    let root : NodeId = c.in-Some.root in
    let start : ℕ = c.args.start in
    let left : ℕ = c.rope_len-len.result - start in
    let long : length (cells t root.0) ≡ c.rope_len-len.result = sym (ap (λ (y : Option NodeId). length (rope_cells t y)) c.in-Some.is) ∙ sym c.rope_len-len.ensures.cells in
    let same = subst (λ (p : ℕ). SameCells t root root p start left) (sym c.requires.begun.0) (same_itself t root start left (omega (arith, long, c.if-start-len.false))) in
    let sought = c.in_ok-found-in-Some.ensures.sought root start same (seeking_begun t st (Some root) start c.args.seeker c.requires.begun.1 c.requires.begun.0) in
    let passed = subst (λ (f : Option ℕ). IsSought t st (Some root) start c.look_in.new.seeker f) c.in_default.is sought in
    sought_inside t st (Some root) start (rope_len t c.args.x) c.search_ring.new.self c.args.seeker.finder c.search_ring.result (long ∙ c.rope_len-len.ensures.exact)
    (c.search_ring.ensures.pattern ∙ c.in_ok-found-in-Some.ensures.pattern) (c.search_ring.ensures.sought t st (Some root) start passed)

pub returns-clause-found : goal.returns-clause-found
returns-clause-found g c =
    let t = g.S.NodeSpace.table c.args.space.now in
    let st = (g.T.Sources.reading c.args.sources.now).stated in
    let root : NodeId = c.in-Some.root in
    let start : ℕ = c.args.start in
    let left : ℕ = c.rope_len-len.result - start in
    let long : length (cells t root.0) ≡ c.rope_len-len.result = sym (ap (λ (y : Option NodeId). length (rope_cells t y)) c.in-Some.is) ∙ sym c.rope_len-len.ensures.cells in
    let same = subst (λ (p : ℕ). SameCells t root root p start left) (sym c.requires.begun.0) (same_itself t root start left (omega (arith, long, c.if-start-len.false))) in
    let sought = c.in_ok-found-in-Some.ensures.sought root start same (seeking_begun t st (Some root) start c.args.seeker c.requires.begun.1 c.requires.begun.0) in
    let passed = subst (λ (f : Option ℕ). IsSought t st (Some root) start c.look_in.new.seeker f) c.in_default.is sought in
    let end : c.rope_len-len.result ≡ rope_len t (Some root) = c.rope_len-len.ensures.exact ∙ ap (rope_len t) c.in-Some.is in
    let few : length c.search_ring.new.self.ring.items < length c.search_ring.new.self.finder =
    omega (arith, c.search_ring.ensures.few, ap length c.search_ring.ensures.pattern) in
    let ended : rope_len t (Some root) ≤ c.search_ring.new.self.place =
    omega (arith, end, c.search_ring.ensures.place, c.in_ok-found-in-Some.ensures.place (ap Ok c.in_default.is), c.requires.begun.0, c.if-start-len.false) in
    subst (λ (y : Option NodeId). FindsFirst t st y c.args.seeker.finder start c.search_ring.result) (sym c.in-Some.is)
    (sought_first t st (Some root) start c.search_ring.new.self c.args.seeker.finder c.search_ring.result (long ∙ end)
    (c.search_ring.ensures.pattern ∙ c.in_ok-found-in-Some.ensures.pattern) ended few (c.search_ring.ensures.sought t st (Some root) start passed))
