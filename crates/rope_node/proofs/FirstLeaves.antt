-- The leaf span that a span begins with is the one that its child span begins with.
use Rattle.std.proofs.Common.{◌≡◌, ℕ, ◌+◌, ◌-◌, ◌<◌, ◌≤◌, min, Some, sym, ap, ◌∙◌, arith, inl, inr}
use Rattle.std.proofs.lemmas.Bool.{cases_lt, lt-ltb, le-ltb}
use Rattle.rope_node.specs.declared.node.NodeId.{NodeId}
use Rattle.rope_node.specs.declared.node.NodeView.{NodeView}
use Rattle.rope_node.specs.declared.node.NodeView.TheVariants.{Lit, Src, Fun, Cat, Sub}
use Rattle.rope_node.specs.declared.node.Span.{Span}
use Rattle.rope_node.specs.Table.{Table, view_at, len_at, IsLeaf, IsSound, HasTrueRecords}
use Rattle.rope_node.specs.Path.{span_at, shortened, rest_of}
use Rattle.rope_node.specs.Steps.{IsSpan, cat_span, child_span, first_of, as_leaf_span}
use Rattle.rope_node.proofs.LeafSpans.{span_step, begins}
use Rattle.rope_node.proofs.Children.{children_of_cat, span_in_left, span_in_right}

first_of_left : (t : Table) → IsSound t → HasTrueRecords t → (x : Span) (l r : NodeId) → IsSpan t x → view_at t x.node.0 ≡ Cat l r → x.start < len_at t l.0 → first_of t (record { node = l; start = x.start; len = min x.len (len_at t l.0 - x.start) }) ≡ first_of t x
first_of_left t s h x l r is e before =
    let c = children_of_cat t s h x.node.0 is.there l r e in
    let step : span_at t x.node.0 x.start ≡ span_at t l.0 x.start = rw (lt-ltb x.start (len_at t l.0) before) at (span_step t s x.node.0 x.start is.there (Cat l r) e) in
    let below = span_at t l.0 x.start in
    let few = (begins t s h l.0 x.start (omega (arith, c.0, is.there)) before).in_node in
    ap (λ (n : ℕ). record below { len = n }) (omega (arith, few)) ∙ ap (shortened x.len) (sym step)

first_of_right : (t : Table) → IsSound t → (x : Span) (l r : NodeId) → IsSpan t x → view_at t x.node.0 ≡ Cat l r → len_at t l.0 ≤ x.start → first_of t (record { node = r; start = x.start - len_at t l.0; len = x.len }) ≡ first_of t x
first_of_right t s x l r is e past =
    let step : span_at t x.node.0 x.start ≡ span_at t r.0 (x.start - len_at t l.0) = rw (le-ltb x.start (len_at t l.0) past) at (span_step t s x.node.0 x.start is.there (Cat l r) e) in
    ap (shortened x.len) (sym step)

first_of_base : (t : Table) → IsSound t → (x : Span) (b : NodeId) (i : ℕ) → IsSpan t x → view_at t x.node.0 ≡ Sub b i → first_of t (record { node = b; start = x.start + i; len = x.len }) ≡ first_of t x
first_of_base t s x b i is e =
    let swap : i + x.start ≡ x.start + i = omega arith in
    let step : span_at t x.node.0 x.start ≡ shortened (len_at t x.node.0 - x.start) (span_at t b.0 (x.start + i)) = rw swap at (span_step t s x.node.0 x.start is.there (Sub b i) e) in
    let below = span_at t b.0 (x.start + i) in
    ap (λ (n : ℕ). record below { len = n }) (omega (arith, is.inside)) ∙ ap (shortened x.len) (sym step)

-- what a span begins with, its child span begins with
pub first_of_child : (t : Table) → IsSound t → HasTrueRecords t → (x z : Span) (v : NodeView) → IsSpan t x → view_at t x.node.0 ≡ v → Some z ≡ child_span t x v → first_of t z ≡ first_of t x
first_of_child t s h x z (Lit a) is e below = absurd cc
first_of_child t s h x z (Src s' a) is e below = absurd cc
first_of_child t s h x z Fun is e below = absurd cc
first_of_child t s h x z (Cat l r) is e below =
    let found : z ≡ cat_span t x l r = cc in
    elim (cases_lt x.start (len_at t l.0)) [
      | inl before ↦ ap (first_of t) (found ∙ span_in_left t x l r before) ∙ first_of_left t s h x l r is e before
      | inr past ↦ ap (first_of t) (found ∙ span_in_right t x l r past) ∙ first_of_right t s x l r is e past
    ]
first_of_child t s h x z (Sub b i) is e below =
    let found : z ≡ record { node = b; start = x.start + i; len = x.len } = cc in
    ap (first_of t) found ∙ first_of_base t s x b i is e

rest_is : (t : Table) (x : Span) → IsSpan t x → as_leaf_span x ≡ shortened x.len (rest_of x.node.0 x.start (len_at t x.node.0))
rest_is t x is = ap (λ (n : ℕ). record { leaf = x.node; start = x.start; len = n }) (omega (arith, is.inside))

-- a span of a leaf is what it begins with
pub first_of_leaf : (t : Table) → IsSound t → (x : Span) (v : NodeView) → IsSpan t x → v ≡ view_at t x.node.0 → IsLeaf v → as_leaf_span x ≡ first_of t x
first_of_leaf t s x (Lit a) is e leaf = rest_is t x is ∙ ap (shortened x.len) (sym (span_step t s x.node.0 x.start is.there (Lit a) (sym e)))
first_of_leaf t s x (Src s' a) is e leaf = rest_is t x is ∙ ap (shortened x.len) (sym (span_step t s x.node.0 x.start is.there (Src s' a) (sym e)))
first_of_leaf t s x Fun is e leaf = rest_is t x is ∙ ap (shortened x.len) (sym (span_step t s x.node.0 x.start is.there Fun (sym e)))
first_of_leaf t s x (Cat l r) is e leaf = absurd leaf
first_of_leaf t s x (Sub b i) is e leaf = absurd leaf
