-- Paths: what stays true on the way down from a node to the leaf that holds a place.
use Rattle.std.proofs.Common.{◌≡◌, ℕ, ◌+◌, ◌≤◌, ◌<◌, ◌⊎◌, inl, inr, length, Some, sym, ap, subst, ◌∙◌, arith}
use Rattle.std.proofs.lemmas.Bool.{cases_lt, lt-ltb, le-ltb}
use Rattle.rope_node.specs.declared.node.NodeView.{NodeView}
use Rattle.rope_node.specs.declared.node.NodeView.TheVariants.{Lit, Src, Fun, Cat, Sub}
use Rattle.rope_node.specs.declared.node.Span.{Span}
use Rattle.rope_node.specs.Table.{Table, view_at, len_at, IsLeaf, IsSound, HasTrueRecords}
use Rattle.rope_node.specs.Denotes.{cell_at}
use Rattle.rope_node.specs.Path.{shortened, span_at, visits, node_visits}
use Rattle.rope_node.specs.Steps.{IsSpan, IsSpanBelow, cat_span, child_span, first_of}
use Rattle.rope_node.proofs.Children.{span_in_left, span_in_right}
use Rattle.rope_node.proofs.FirstLeaves.{first_of_child}
use Rattle.rope_node.proofs.Visits.{visits_step, visits-le}

-- the byte of span x is where the path from place q of node y leads, after `seen` nodes above x
pub record IsOnPath (t : Table) (y q : ℕ) (x : Span) (seen : ℕ) : Type 0 where
  pub is_span : IsSpan t x
  pub one : x.len ≡ 1
  pub cell : cell_at t x.node.0 x.start ≡ cell_at t y q
  pub first : first_of t x ≡ shortened 1 (span_at t y q)
  pub count : seen + visits t x.node.0 x.start ≡ visits t y q

-- one step of the count, where it is known what the node is
visits_at : (t : Table) → IsSound t → (x p : ℕ) → x < length t.nodes → (v : NodeView) → view_at t x ≡ v → visits t x p ≡ node_visits t (visits t) p v
visits_at t s x p inside v is = visits_step t s x p inside ∙ ap (node_visits t (visits t) p) is

visits_below : (t : Table) → IsSound t → (x z : Span) (v : NodeView) → IsSpan t x → view_at t x.node.0 ≡ v → Some z ≡ child_span t x v → visits t x.node.0 x.start ≡ 1 + visits t z.node.0 z.start
visits_below t s x z (Lit a) is e child = absurd cc
visits_below t s x z (Src r a) is e child = absurd cc
visits_below t s x z Fun is e child = absurd cc
visits_below t s x z (Cat l r) is e child =
    let found : z ≡ cat_span t x l r = cc in
    let step = visits_at t s x.node.0 x.start is.there (Cat l r) e in
    elim (cases_lt x.start (len_at t l.0)) [
      | inl before ↦ rw (found ∙ span_in_left t x l r before) (rw (lt-ltb x.start (len_at t l.0) before) at step)
      | inr past ↦ rw (found ∙ span_in_right t x l r past) (rw (le-ltb x.start (len_at t l.0) past) at step)
    ]
visits_below t s x z (Sub b i) is e child =
    let found : z ≡ record { node = b; start = x.start + i; len = x.len } = cc in
    let swap : i + x.start ≡ x.start + i = omega arith in
    rw found (rw swap at (visits_at t s x.node.0 x.start is.there (Sub b i) e))

pub goes_below : (t : Table) → IsSound t → HasTrueRecords t → (y q : ℕ) (x z : Span) (v : NodeView) (seen : ℕ) → v ≡ view_at t x.node.0 → IsSpanBelow t x v 1 z → IsOnPath t y q x seen → IsOnPath t y q z (seen + 1)
goes_below t s h y q x z v seen e below path =
    let step = visits_below t s x z v path.is_span (sym e) below.child in
    record {
      is_span = below.cells.is_span;
      one = omega (arith, below.many, below.cells.few, path.one);
      cell = ap (cell_at t z.node.0) (omega arith) ∙ sym (below.cells.same.each 0 (omega (arith, below.many))) ∙ ap (cell_at t x.node.0) (omega arith) ∙ path.cell;
      first = first_of_child t s h x z v path.is_span (sym e) below.child ∙ path.first;
      count = omega (arith, step, path.count);
    }

-- the path has at most 65 nodes
pub seen_few : (t : Table) → IsSound t → HasTrueRecords t → (y q : ℕ) (x : Span) (seen : ℕ) → y < length t.nodes → IsOnPath t y q x seen → seen ≤ 65
seen_few t s h y q x seen inside path = omega (arith, path.count, visits-le t s h y q inside, (s.nodes y inside).not_deep)

-- the path ends at a leaf
pub visits_leaf : (t : Table) → IsSound t → (x p : ℕ) → x < length t.nodes → (v : NodeView) → v ≡ view_at t x → IsLeaf v → visits t x p ≡ 1
visits_leaf t s x p inside (Lit a) e leaf = visits_at t s x p inside (Lit a) (sym e)
visits_leaf t s x p inside (Src s' a) e leaf = visits_at t s x p inside (Src s' a) (sym e)
visits_leaf t s x p inside Fun e leaf = visits_at t s x p inside Fun (sym e)
visits_leaf t s x p inside (Cat l r) e leaf = absurd leaf
visits_leaf t s x p inside (Sub b i) e leaf = absurd leaf

-- the kinds of node at which a path ends
pub is_leaf_of : (v : NodeView) → ((a : ℕ) × (v ≡ Lit a)) ⊎ (((s : ℕ) × (a : ℕ) × (v ≡ Src s a)) ⊎ (v ≡ Fun)) → IsLeaf v
is_leaf_of v (inl (a, is)) = subst IsLeaf (sym is) tt
is_leaf_of v (inr (inl (s, a, is))) = subst IsLeaf (sym is) tt
is_leaf_of v (inr (inr is)) = subst IsLeaf (sym is) tt
