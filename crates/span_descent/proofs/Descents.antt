-- Descents: what a lead says at each kind of node, and what stays true on the way down.
use Rattle.std.proofs.Common.{◌≡◌, ℕ, ◌+◌, ◌-◌, ◌<◌, ◌≤◌, ◌⊎◌, inl, inr, length, subst}
use Rattle.rope_node.specs.declared.node.NodeId.{NodeId}
use Rattle.rope_node.specs.declared.node.NodeView.{NodeView}
use Rattle.rope_node.specs.declared.node.NodeView.TheVariants.{Lit, Src, Fun, Cat, Sub}
use Rattle.rope_node.specs.Table.{Table, view_at, len_at, IsLeaf, IsSound, HasTrueRecords}
use Rattle.span_descent.specs.Leads.{Leads, here, in_left, in_right, in_base}

-- a concatenation is no leaf
pub not_leaf_cat : (v : NodeView) (l r : NodeId) → v ≡ Cat l r → IsLeaf v → ⊥
not_leaf_cat (Cat l' r') l r e h = h
not_leaf_cat (Lit a) l r e h = absurd cc
not_leaf_cat (Src s a) l r e h = absurd cc
not_leaf_cat Fun l r e h = absurd cc
not_leaf_cat (Sub b i) l r e h = h

pub not_leaf_sub : (v : NodeView) (b : NodeId) (i : ℕ) → v ≡ Sub b i → IsLeaf v → ⊥
not_leaf_sub (Sub b' i') b i e h = h
not_leaf_sub (Lit a) b i e h = absurd cc
not_leaf_sub (Src s a) b i e h = absurd cc
not_leaf_sub Fun b i e h = absurd cc
not_leaf_sub (Cat l r) b i e h = h

-- a lead from a concatenation to a leaf goes on in one child
pub after_cat : {t : Table} {n k o x p : ℕ} (l r : NodeId) → Leads t n k o x p → IsLeaf (view_at t k) → view_at t x ≡ Cat l r
    → ((p + n ≤ len_at t l.0) × Leads t n k o l.0 p) ⊎ ((len_at t l.0 ≤ p) × Leads t n k o r.0 (p - len_at t l.0))
after_cat {t} {n} {k} {o} {x} {p} l r (here e f) leaf is = absurd (not_leaf_cat (view_at t k) l r (subst (λ (y : ℕ). view_at t y ≡ Cat l r) e is) leaf)
after_cat {t} {n} {k} {o} {x} {p} l r (in_left l' r' e fits lead) leaf is =
    let same : l' ≡ l = cc in
    inl (subst (λ (y : NodeId). (p + n ≤ len_at t y.0) × Leads t n k o y.0 p) same (fits, lead))
after_cat {t} {n} {k} {o} {x} {p} l r (in_right l' r' e past lead) leaf is =
    let same_l : l' ≡ l = cc in
    let same_r : r' ≡ r = cc in
    inr (subst (λ (y : NodeId). (len_at t y.0 ≤ p) × Leads t n k o r.0 (p - len_at t y.0)) same_l (past, subst (λ (z : NodeId). Leads t n k o z.0 (p - len_at t l'.0)) same_r lead))
after_cat l r (in_base b i e lead) leaf is = absurd cc

-- a lead from a substring to a leaf goes on in the base
pub after_sub : {t : Table} {n k o x p : ℕ} (b : NodeId) (i : ℕ) → Leads t n k o x p → IsLeaf (view_at t k) → view_at t x ≡ Sub b i → Leads t n k o b.0 (p + i)
after_sub {t} {n} {k} {o} {x} {p} b i (here e f) leaf is = absurd (not_leaf_sub (view_at t k) b i (subst (λ (y : ℕ). view_at t y ≡ Sub b i) e is) leaf)
after_sub b i (in_left l' r' e fits lead) leaf is = absurd cc
after_sub b i (in_right l' r' e past lead) leaf is = absurd cc
after_sub {t} {n} {k} {o} {x} {p} b i (in_base b' i' e lead) leaf is =
    let same_b : b' ≡ b = cc in
    let same_i : i' ≡ i = cc in
    subst (λ (y : NodeId). Leads t n k o y.0 (p + i)) same_b (subst (λ (j : ℕ). Leads t n k o b'.0 (p + j)) same_i lead)

-- a lead from a leaf ends there
pub at_leaf : {t : Table} {n k o x p : ℕ} → Leads t n k o x p → IsLeaf (view_at t x) → (x ≡ k) × (p ≡ o)
at_leaf (here e f) leaf = (e, f)
at_leaf {t} {n} {k} {o} {x} (in_left l r e fits lead) leaf = absurd (not_leaf_cat (view_at t x) l r e leaf)
at_leaf {t} {n} {k} {o} {x} (in_right l r e past lead) leaf = absurd (not_leaf_cat (view_at t x) l r e leaf)
at_leaf {t} {n} {k} {o} {x} (in_base b i e lead) leaf = absurd (not_leaf_sub (view_at t x) b i e leaf)
