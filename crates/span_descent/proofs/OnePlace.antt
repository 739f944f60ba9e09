-- The way from a span down to one place, and what a descent to a leaf tells of descriptions.
use Rattle.std.proofs.Common.{◌≡◌, ℕ, ◌+◌, ◌-◌, ◌≤◌, ◌⊎◌, inl, inr, Some, None, refl, sym, subst}
use Rattle.std.specs.Prelude.{◌↔◌}
use Rattle.function_leaf.specs.declared.coded.Coded.{Coded}
use Rattle.rope_node.specs.declared.node.NodeId.{NodeId}
use Rattle.rope_node.specs.declared.node.NodeView.TheVariants.{Cat, Sub}
use Rattle.rope_node.specs.Table.{Table, view_at, len_at, IsLeaf}
use Rattle.span_descent.specs.declared.description.Description.{Description}
use Rattle.span_descent.specs.declared.descent.SpanPlace.{SpanPlace}
use Rattle.span_descent.specs.Leads.{Leads, here, in_left, in_right, in_base, leaf_description, HasDescription}
use Rattle.span_descent.specs.Descents.{LeadsToSpan}
use Rattle.span_descent.proofs.Descents.{not_leaf_cat, not_leaf_sub}

-- a test of two equations that failed
pub away_of : (x k p o : ℕ) → ((x ≡ k) × (p ≡ o → ⊥)) ⊎ (x ≡ k → ⊥) → ¬ ((x ≡ k) × (p ≡ o))
away_of x k p o (inl w) both = w.1 both.1
away_of x k p o (inr w) both = w both.0

pub after_cat_to : {t : Table} {n k o x p : ℕ} (l r : NodeId) → Leads t n k o x p → ¬ ((x ≡ k) × (p ≡ o)) → view_at t x ≡ Cat l r
    → ((p + n ≤ len_at t l.0) × Leads t n k o l.0 p) ⊎ ((len_at t l.0 ≤ p) × Leads t n k o r.0 (p - len_at t l.0))
after_cat_to l r (here e f) away is = absurd (away (e, f))
after_cat_to {t} {n} {k} {o} {x} {p} l r (in_left l' r' e fits lead) away is =
    let same : l' ≡ l = cc in
    inl (subst (λ (y : NodeId). (p + n ≤ len_at t y.0) × Leads t n k o y.0 p) same (fits, lead))
after_cat_to {t} {n} {k} {o} {x} {p} l r (in_right l' r' e past lead) away is =
    let same_l : l' ≡ l = cc in
    let same_r : r' ≡ r = cc in
    inr (subst (λ (y : NodeId). (len_at t y.0 ≤ p) × Leads t n k o r.0 (p - len_at t y.0)) same_l (past, subst (λ (z : NodeId). Leads t n k o z.0 (p - len_at t l'.0)) same_r lead))
after_cat_to l r (in_base b i e lead) away is = absurd cc

pub after_sub_to : {t : Table} {n k o x p : ℕ} (b : NodeId) (i : ℕ) → Leads t n k o x p → ¬ ((x ≡ k) × (p ≡ o)) → view_at t x ≡ Sub b i → Leads t n k o b.0 (p + i)
after_sub_to b i (here e f) away is = absurd (away (e, f))
after_sub_to b i (in_left l' r' e fits lead) away is = absurd cc
after_sub_to b i (in_right l' r' e past lead) away is = absurd cc
after_sub_to {t} {n} {k} {o} {x} {p} b i (in_base b' i' e lead) away is =
    let same_b : b' ≡ b = cc in
    let same_i : i' ≡ i = cc in
    subst (λ (y : NodeId). Leads t n k o y.0 (p + i)) same_b (subst (λ (j : ℕ). Leads t n k o b'.0 (p + j)) same_i lead)

pub at_leaf_to : {t : Table} {n k o x p : ℕ} → Leads t n k o x p → IsLeaf (view_at t x) → ¬ ((x ≡ k) × (p ≡ o)) → ⊥
at_leaf_to (here e f) leaf away = away (e, f)
at_leaf_to {t} {n} {k} {o} {x} (in_left l r e fits lead) leaf away = not_leaf_cat (view_at t x) l r e leaf
at_leaf_to {t} {n} {k} {o} {x} (in_right l r e past lead) leaf away = not_leaf_cat (view_at t x) l r e leaf
at_leaf_to {t} {n} {k} {o} {x} (in_base b i e lead) leaf away = not_leaf_sub (view_at t x) b i e leaf

-- where a descent ends, its leaf's description is the span's
pub described_by_leaf : (t : Table) (coded : ℕ → Coded) (n x p : ℕ) (s : SpanPlace) → ((s' : SpanPlace) → (Some s ≡ Some s') ↔ LeadsToSpan t n x p s') → (d : Description)
    → (leaf_description (coded s.leaf.0) s.start s.view ≡ Some d) ↔ HasDescription t coded n x p d
described_by_leaf t coded n x p s found d = (
  λ e. let here = (found s).0 refl in (s.leaf.0, s.start, here.leads, rw (← here.view) e),
  λ (k, o, lead, e).
      let end : SpanPlace = record { leaf = record { 0 = k }; start = o; view = view_at t k } in
      let same : Some s ≡ Some end = (found end).1 (record { leads = lead; view = refl }) in
      let is : s ≡ end = cc in
      subst (λ (z : SpanPlace). leaf_description (coded z.leaf.0) z.start z.view ≡ Some d) (sym is) e,
)

pub described_by_none : (t : Table) (coded : ℕ → Coded) (n x p : ℕ) → ((s' : SpanPlace) → (None ≡ Some s') ↔ LeadsToSpan t n x p s') → (d : Description) → (None ≡ Some d) ↔ HasDescription t coded n x p d
described_by_none t coded n x p found d = (
  λ e. absurd cc,
  λ (k, o, lead, e).
      let end : SpanPlace = record { leaf = record { 0 = k }; start = o; view = view_at t k } in
      let same : None ≡ Some end = (found end).1 (record { leads = lead; view = refl }) in
      absurd cc,
)
