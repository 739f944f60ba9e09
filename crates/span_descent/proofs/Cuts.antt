-- Where a way down is cut: one byte more leads only to nodes above.
use Rattle.std.proofs.Common.{◌≡◌, ℕ, ◌+◌, ◌-◌, ◌<◌, ◌≤◌, min, inl, inr, length, Some, refl, sym, ap, ◌∙◌, arith}
use Rattle.std.proofs.lemmas.Bool.{cases_lt}
use Rattle.rope_node.specs.declared.node.NodeView.{NodeView}
use Rattle.rope_node.specs.declared.node.NodeView.TheVariants.{Lit, Src, Fun, Cat, Sub}
use Rattle.rope_node.specs.Table.{Table, view_at, len_at, IsSound, HasTrueRecords}
use Rattle.rope_node.specs.declared.node.Span.{Span}
use Rattle.span_descent.specs.Leads.{Leads, here, in_left, in_right, in_base}
use Rattle.span_descent.specs.Descents.{OnlyAbove}
use Rattle.span_descent.specs.Steps.{IsReached, IsBelow}
use Rattle.rope_node.specs.Steps.{cat_span, child_span}
use Rattle.rope_node.proofs.Children.{children_of_cat, base_of_sub}
use Rattle.rope_node.proofs.Children.{span_in_left, span_in_right}
use Rattle.span_descent.proofs.Steps.{leads_shorter}
use Rattle.span_descent.proofs.OnePlace.{after_cat_to, after_sub_to}

module _ (t : Table) (s : IsSound t) (h : HasTrueRecords t) where
  not_higher : {n k o x p : ℕ} → x < length t.nodes → Leads t n k o x p → k ≤ x
  not_higher there (here e f) = omega (arith, e)
  not_higher {n} {k} {o} {x} {p} there (in_left l r e fits lead) =
      let c = children_of_cat t s h x there l r e in
      omega (arith, c.0, not_higher (omega (arith, c.0, there)) lead)
  not_higher {n} {k} {o} {x} {p} there (in_right l r e past lead) =
      let c = children_of_cat t s h x there l r e in
      omega (arith, c.1, not_higher (omega (arith, c.1, there)) lead)
  not_higher {n} {k} {o} {x} {p} there (in_base b i e lead) =
      let c = base_of_sub t s x there b i e in
      omega (arith, c.0, not_higher (omega (arith, c.0, there)) lead)

  -- of two nodes that a span leads to, the higher leads to the other
  pub leads_on : {n k o y q x p : ℕ} → 1 ≤ n → x < length t.nodes → k ≤ y → Leads t n y q x p → Leads t n k o x p → Leads t n k o y q
  leads_on {n} {k} {o} {y} {q} {x} {p} some there le (here e f) lead = rw (← e, ← f) lead
  leads_on {n} {k} {o} {y} {q} {x} {p} some there le (in_left l r e fits on) lead =
      let c = children_of_cat t s h x there l r e in
      let lower = not_higher (omega (arith, c.0, there)) on in
      elim (after_cat_to l r lead (λ at. omega (arith, at.0, le, lower, c.0)) e) [
        | inl w ↦ leads_on some (omega (arith, c.0, there)) le on w.1
        | inr w ↦ absurd (omega (arith, w.0, fits, some))
      ]
  leads_on {n} {k} {o} {y} {q} {x} {p} some there le (in_right l r e past on) lead =
      let c = children_of_cat t s h x there l r e in
      let lower = not_higher (omega (arith, c.1, there)) on in
      elim (after_cat_to l r lead (λ at. omega (arith, at.0, le, lower, c.1)) e) [
        | inl w ↦ absurd (omega (arith, w.0, past, some))
        | inr w ↦ leads_on some (omega (arith, c.1, there)) le on w.1
      ]
  leads_on {n} {k} {o} {y} {q} {x} {p} some there le (in_base b i e on) lead =
      let c = base_of_sub t s x there b i e in
      let lower = not_higher (omega (arith, c.0, there)) on in
      leads_on some (omega (arith, c.0, there)) le on (after_sub_to b i lead (λ at. omega (arith, at.0, le, lower, c.0)) e)

  -- where a step down is to fewer bytes, one more leads to no node below
  cut_at_child : (x z : Span) (v : NodeView) → view_at t x.node.0 ≡ v → Some z ≡ child_span t x v → z.node.0 < x.node.0 → z.len < x.len → OnlyAbove t z.len x z.node
  cut_at_child x z (Lit a) e is lower short k o lead = absurd cc
  cut_at_child x z (Src r a) e is lower short k o lead = absurd cc
  cut_at_child x z Fun e is lower short k o lead = absurd cc
  cut_at_child x z (Sub b i) e is lower short k o lead =
      let found : z ≡ record { node = b; start = x.start + i; len = x.len } = cc in
      absurd (let len : z.len ≡ x.len = rw found refl in omega (arith, len, short))
  cut_at_child x z (Cat l r) e is lower short k o lead =
      let found : z ≡ cat_span t x l r = cc in
      elim (cases_lt z.node.0 k) [
        | inl above ↦ above
        | inr below ↦
            let goes = after_cat_to l r lead (λ at. omega (arith, at.0, below, lower)) e in
            elim (cases_lt x.start (len_at t l.0)) [
              | inl before ↦
                  let len : z.len ≡ min x.len (len_at t l.0 - x.start) = ap (λ (w : Span). w.len) (found ∙ span_in_left t x l r before) in
                  elim goes [ inl w ↦ absurd (omega (arith, w.0, len, short)) | inr w ↦ absurd (omega (arith, w.0, before)) ]
              | inr past ↦
                  let len : z.len ≡ x.len = ap (λ (w : Span). w.len) (found ∙ span_in_right t x l r past) in
                  absurd (omega (arith, len, short))
            ]
      ]

  -- so it is from where that node is reached
  pub cut_through : (x a z : Span) (v : NodeView) → x.node.0 < length t.nodes → v ≡ view_at t a.node.0 → Some z ≡ child_span t a v → IsReached t x a → IsBelow t a z → z.len < a.len → OnlyAbove t z.len x z.node
  cut_through x a z v there e is reached below short k o lead =
      elim (cases_lt z.node.0 k) [
        | inl above ↦ above
        | inr le ↦
            let on = leads_on (omega arith) there (omega (arith, le, below.lower)) (leads_shorter (omega (arith, short)) reached.leads) lead in
            cut_at_child a z v (sym e) is below.lower short k o on
      ]
