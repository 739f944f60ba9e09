-- Laws of leaf spans: one step down to them, and which cells they are.
use Rattle.std.proofs.Common.{◌≡◌, ℕ, zero, suc, ◌+◌, ◌-◌, ◌<◌, ◌≤◌, ◌++◌, min, ltb, length, take, drop, refl, sym, ap, subst, ◌∙◌, arith}
use Rattle.std.proofs.Math.Nat.{min-le_left, min-le_right}
use Rattle.std.proofs.lemmas.Bool.{ltb-true, ltb-false, cond_both}
use Rattle.std.proofs.lemmas.List.{take-take}
use Rattle.rope_node.specs.declared.node.LeafSpan.{LeafSpan}
use Rattle.rope_node.specs.declared.node.NodeId.{NodeId}
use Rattle.rope_node.specs.declared.node.NodeView.{NodeView}
use Rattle.rope_node.specs.declared.node.NodeView.TheVariants.{Lit, Src, Fun, Cat, Sub}
use Rattle.rope_node.specs.Table.{Table, view_at, len_at, HasGoodReferences, IsLeaf, IsSound, HasTrueRecords}
use Rattle.rope_node.specs.Denotes.{cells}
use Rattle.rope_node.specs.Path.{span_at, span_in, node_span, shortened, rest_of}
use Rattle.rope_node.proofs.Cells.{cells_at, cells_length}
use Rattle.rope_node.proofs.Parts.{span_left, span_right, span_within}

-- the span depends on the children's alone
node_span_alike : (t : Table) (f g : ℕ → ℕ → LeafSpan) (id i n : ℕ) (v : NodeView) → HasGoodReferences t id v → ((c j : ℕ) → c < id → f c j ≡ g c j) → node_span t f id i n v ≡ node_span t g id i n v
node_span_alike t f g id i n (Lit a) s h = refl
node_span_alike t f g id i n (Src s' a) s h = refl
node_span_alike t f g id i n Fun s h = refl
node_span_alike t f g id i n (Cat l r) s h = rw (h l.0 i s.0, h r.0 (i - len_at t l.0) s.1) refl
node_span_alike t f g id i n (Sub b start) s h = rw (h b.0 (start + i) s) refl

steps_enough : (t : Table) → IsSound t → (m n id i : ℕ) → id < length t.nodes → id < m → id < n → span_in t m id i ≡ span_in t n id i
steps_enough t s zero n id i inside a b = absurd (omega arith)
steps_enough t s (suc m) zero id i inside a b = absurd (omega arith)
steps_enough t s (suc m) (suc n) id i inside a b =
    node_span_alike t (span_in t m) (span_in t n) id i (len_at t id) (view_at t id) (s.nodes id inside).references
    (λ c j lt. steps_enough t s m n c j (omega arith) (omega arith) (omega arith))

-- one step of the path, where it is known what the node is
pub span_step : (t : Table) → IsSound t → (id i : ℕ) → id < length t.nodes → (v : NodeView) → view_at t id ≡ v → span_at t id i ≡ node_span t (span_at t) id i (len_at t id) v
span_step t s id i inside v is =
    node_span_alike t (span_in t id) (span_at t) id i (len_at t id) (view_at t id) (s.nodes id inside).references
    (λ c j lt. steps_enough t s id (suc c) c j (omega arith) lt (omega arith))
    ∙ ap (node_span t (span_at t) id i (len_at t id)) is

-- at a leaf the span is what is left of it
pub rest_at : (t : Table) → IsSound t → (id i : ℕ) → id < length t.nodes → (v : NodeView) → view_at t id ≡ v → IsLeaf v → span_at t id i ≡ rest_of id i (len_at t id)
rest_at t s id i there (Lit a) e leaf = span_step t s id i there (Lit a) e
rest_at t s id i there (Src s' a) e leaf = span_step t s id i there (Src s' a) e
rest_at t s id i there Fun e leaf = span_step t s id i there Fun e
rest_at t s id i there (Cat l r) e leaf = absurd leaf
rest_at t s id i there (Sub b start) e leaf = absurd leaf

-- this span of a leaf is what the cells of node y begin with at place q
pub record BeginsWith (t : Table) (y q : ℕ) (x : LeafSpan) : Type 0 where
  pub there : x.leaf.0 < length t.nodes
  pub leaf : IsLeaf (view_at t x.leaf.0)
  pub some : 1 ≤ x.len
  pub in_leaf : x.start + x.len ≤ len_at t x.leaf.0
  pub in_node : q + x.len ≤ len_at t y
  pub cells : take x.len (drop q (cells t y)) ≡ take x.len (drop x.start (cells t x.leaf.0))

begins_leaf : (t : Table) (y q : ℕ) → y < length t.nodes → q < len_at t y → IsLeaf (view_at t y) → BeginsWith t y q (rest_of y q (len_at t y))
begins_leaf t y q there inside leaf = record {
  there = there;
  leaf = leaf;
  some = omega arith;
  in_leaf = omega arith;
  in_node = omega arith;
  cells = refl;
}

begins_left : (t : Table) → IsSound t → HasTrueRecords t → (y q : ℕ) (l r : NodeId) (x : LeafSpan) → y < length t.nodes → view_at t y ≡ Cat l r → BeginsWith t l.0 q x → BeginsWith t y q x
begins_left t s h y q l r x there e below =
    let first = rw e at (s.nodes y there).references in
    let len = rw e at (h.nodes y there).len in
    let left = cells_length t s h l.0 (omega (arith, first.0)) in
    record {
      there = below.there;
      leaf = below.leaf;
      some = below.some;
      in_leaf = below.in_leaf;
      in_node = omega (arith, len, below.in_node);
      cells = ap (λ cs. take x.len (drop q cs)) (cells_at t s y there (Cat l r) e) ∙ span_left x.len q (cells t l.0) (cells t r.0) (omega (arith, left, below.in_node)) ∙ below.cells;
    }

begins_right : (t : Table) → IsSound t → HasTrueRecords t → (y q : ℕ) (l r : NodeId) (x : LeafSpan) → y < length t.nodes → view_at t y ≡ Cat l r → len_at t l.0 ≤ q → BeginsWith t r.0 (q - len_at t l.0) x → BeginsWith t y q x
begins_right t s h y q l r x there e past below =
    let first = rw e at (s.nodes y there).references in
    let len = rw e at (h.nodes y there).len in
    let left : length (cells t l.0) ≡ len_at t l.0 = cells_length t s h l.0 (omega (arith, first.0)) in
    let same : take x.len (drop q (cells t l.0 ++ cells t r.0)) ≡ take x.len (drop (q - len_at t l.0) (cells t r.0)) =
    span_right x.len q (cells t l.0) (cells t r.0) (omega (arith, left)) ∙ ap (λ j. take x.len (drop (q - j) (cells t r.0))) left in
    record {
      there = below.there;
      leaf = below.leaf;
      some = below.some;
      in_leaf = below.in_leaf;
      in_node = omega (arith, len, below.in_node);
      cells = ap (λ cs. take x.len (drop q cs)) (cells_at t s y there (Cat l r) e) ∙ same ∙ below.cells;
    }

begins_below : (t : Table) → IsSound t → (y q : ℕ) (b : NodeId) (i : ℕ) (x : LeafSpan) → y < length t.nodes → q < len_at t y → view_at t y ≡ Sub b i → BeginsWith t b.0 (i + q) x → BeginsWith t y q (shortened (len_at t y - q) x)
begins_below t s y q b i x there inside e below =
    let n = min (len_at t y - q) x.len in
    let few : n ≤ x.len = min-le_right (len_at t y - q) x.len in
    let room : n ≤ len_at t y - q = min-le_left (len_at t y - q) x.len in
    let base = cells t b.0 in
    let all = take-take n x.len (drop (q + i) base) few in
    let swap : i + q ≡ q + i = omega arith in
    let same : take x.len (drop (q + i) base) ≡ take x.len (drop x.start (cells t x.leaf.0)) = rw swap at below.cells in
    record {
      there = below.there;
      leaf = below.leaf;
      some = omega (arith, below.some);
      in_leaf = omega (arith, below.in_leaf, few);
      in_node = omega (arith, room);
      cells = ap (λ cs. take n (drop q cs)) (cells_at t s y there (Sub b i) e) ∙ span_within n q (len_at t y) i base (omega (arith, room))
          ∙ sym all ∙ ap (take n) same ∙ take-take n x.len (drop x.start (cells t x.leaf.0)) few;
    }

begins_at : (t : Table) → IsSound t → HasTrueRecords t → (m y q : ℕ) (v : NodeView) → y < length t.nodes → y < suc m → q < len_at t y → view_at t y ≡ v → ((c j : ℕ) → c < y → j < len_at t c → BeginsWith t c j (span_at t c j)) → BeginsWith t y q (node_span t (span_at t) y q (len_at t y) v)
begins_at t s h m y q (Lit a) there le inside e below = begins_leaf t y q there inside (subst IsLeaf (sym e) tt)
begins_at t s h m y q (Src s' a) there le inside e below = begins_leaf t y q there inside (subst IsLeaf (sym e) tt)
begins_at t s h m y q Fun there le inside e below = begins_leaf t y q there inside (subst IsLeaf (sym e) tt)
begins_at t s h m y q (Cat l r) there le inside e below =
    let first = rw e at (s.nodes y there).references in
    let len = rw e at (h.nodes y there).len in
    cond_both (ltb q (len_at t l.0)) (span_at t l.0 q) (span_at t r.0 (q - len_at t l.0)) (BeginsWith t y q)
    (λ is. begins_left t s h y q l r (span_at t l.0 q) there e (below l.0 q first.0 (ltb-true q (len_at t l.0) is)))
    (λ is. let past = ltb-false q (len_at t l.0) is in begins_right t s h y q l r (span_at t r.0 (q - len_at t l.0)) there e (omega (arith, past)) (below r.0 (q - len_at t l.0) first.1 (omega (arith, past, len))))
begins_at t s h m y q (Sub b i) there le inside e below =
    let first = rw e at (s.nodes y there).references in
    let held = rw e at (s.nodes y there).span in
    begins_below t s y q b i (span_at t b.0 (i + q)) there inside e (below b.0 (i + q) first (omega (arith, held)))

begins_by : (t : Table) → IsSound t → HasTrueRecords t → (m y q : ℕ) → y < length t.nodes → y < m → q < len_at t y → BeginsWith t y q (span_at t y q)
begins_by t s h zero y q there below inside = absurd (omega arith)
begins_by t s h (suc m) y q there below inside =
    subst (BeginsWith t y q) (sym (span_step t s y q there (view_at t y) refl))
    (begins_at t s h m y q (view_at t y) there below inside refl (λ c j lt fits. begins_by t s h m c j (omega arith) (omega arith) fits))

-- a node's cells begin with its leaf span at each place
pub begins : (t : Table) → IsSound t → HasTrueRecords t → (y q : ℕ) → y < length t.nodes → q < len_at t y → BeginsWith t y q (span_at t y q)
begins t s h y q there inside = begins_by t s h (suc y) y q there (omega arith) inside
