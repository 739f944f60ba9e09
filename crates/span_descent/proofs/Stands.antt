-- Where a way down a span stands: what a step of it keeps, and what its end tells.
use Rattle.std.proofs.Common.{◌≡◌, ◌↔◌, ℕ, ◌+◌, ◌≤◌, ◌⊎◌, inl, inr, Some, None, refl, sym, ap, subst, ◌∙◌, arith}
use Rattle.std.proofs.lemmas.Bool.{cases_lt}
use Rattle.rope_node.specs.declared.node.NodeView.{NodeView}
use Rattle.rope_node.specs.declared.node.NodeView.TheVariants.{Lit, Src, Fun, Cat, Sub}
use Rattle.rope_node.specs.Table.{Table, view_at, len_at, IsLeaf, IsSound, HasTrueRecords}
use Rattle.span_descent.specs.declared.descent.SpanPlace.{SpanPlace}
use Rattle.rope_node.specs.declared.node.Span.{Span}
use Rattle.span_descent.specs.Descents.{IsLeafOf, LeadsToSpan, IsStand, OnlyAbove}
use Rattle.rope_node.specs.Steps.{IsBorder, IsSpan, cat_span, child_span}
use Rattle.span_descent.specs.Leads.{Leads, here, LeadsToLeaf}
use Rattle.span_descent.specs.Steps.{IsBelow}
use Rattle.span_descent.proofs.Descents.{after_cat, at_leaf}
use Rattle.rope_node.proofs.FirstLeaves.{first_of_child, first_of_leaf}
use Rattle.rope_node.proofs.Children.{span_in_left, span_in_right}
use Rattle.span_descent.proofs.Cuts.{cut_through, leads_on}
use Rattle.span_descent.proofs.Steps.{child_below, leads_through, reached_itself, reached_through}
use Rattle.span_descent.proofs.OnePlace.{after_cat_to, after_sub_to, at_leaf_to}

pub stand_begins : (t : Table) (x : Span) → IsSpan t x → IsStand t x x
stand_begins t x is = record { reached = reached_itself t x is; first = refl; cut = λ short. absurd (omega (arith, short)) }

module _ (t : Table) (s : IsSound t) (h : HasTrueRecords t) where
  pub stand_goes : (x y z : Span) (v : NodeView) → IsSpan t x → IsStand t x y → v ≡ view_at t y.node.0 → Some z ≡ child_span t y v → IsStand t x z
  stand_goes x y z v is stands e child =
      let below = child_below t s h y z v stands.reached.is_span e child in
      record {
        reached = reached_through t x y z stands.reached below.reached;
        first = first_of_child t s h y z v stands.reached.is_span (sym e) child ∙ stands.first;
        cut = λ short. elim (cases_lt z.len y.len) [
          | inl cut ↦ cut_through t s h x y z v is.there e child stands.reached below cut
          | inr whole ↦
              let same : y.len ≡ z.len = omega (arith, whole, below.reached.few) in
              let above : OnlyAbove t z.len x y.node = subst (λ (n : ℕ). OnlyAbove t n x y.node) same (stands.cut (omega (arith, same, short))) in
              λ k o lead. omega (arith, above k o lead, below.lower)
        ];
      }

  -- ---- to the leaf that it begins with

  pub leaf_stands : (x z : Span) (v : NodeView) → IsStand t x z → v ≡ view_at t z.node.0 → IsLeaf v → IsLeafOf t x (record { span = z; view = v })
  leaf_stands x z v stands e leaf = record {
    reached = stands.reached;
    whole = first_of_leaf t s z v stands.reached.is_span e leaf ∙ stands.first;
    view = e;
    leaf = leaf;
  }

  -- ---- with all of its bytes

  all_lead : (x z : Span) → IsStand t x z → x.len ≤ z.len → Leads t x.len z.node.0 z.start x.node.0 x.start
  all_lead x z stands long =
      let same : z.len ≡ x.len = omega (arith, stands.reached.few, long) in
      subst (λ (n : ℕ). Leads t n z.node.0 z.start x.node.0 x.start) same stands.reached.leads

  -- to a leaf, by way of where it stands
  to_leaf : (x z : Span) → IsSpan t x → IsStand t x z → x.len ≤ z.len → (k o : ℕ) → LeadsToLeaf t x.len k o x.node.0 x.start → LeadsToLeaf t x.len k o z.node.0 z.start
  to_leaf x z is stands long k o lead =
      let reached = all_lead x z stands long in
      elim (cases_lt z.node.0 k) [
        | inl above ↦
            let ends = at_leaf (leads_on t s h is.some is.there (omega (arith, above)) lead.0 reached) lead.1 in
            absurd (omega (arith, above, ends.0))
        | inr le ↦ (leads_on t s h is.some is.there le reached lead.0, lead.1)
      ]

  pub found_leaf : (x z : Span) (v : NodeView) → IsSpan t x → IsStand t x z → x.len ≤ z.len → v ≡ view_at t z.node.0 → IsLeaf v → (p : SpanPlace) → (Some (record { leaf = z.node; start = z.start; view = v }) ≡ Some p) ↔ LeadsToSpan t x.len x.node.0 x.start p
  found_leaf x z v is stands long e leaf p = (
    λ same.
        let found : record { leaf = z.node; start = z.start; view = v } ≡ p = cc in
        subst (LeadsToSpan t x.len x.node.0 x.start) found (record { leads = (all_lead x z stands long, subst IsLeaf e leaf); view = e }),
    λ lead.
        let same = at_leaf (to_leaf x z is stands long p.leaf.0 p.start lead.leads).0 (subst IsLeaf e leaf) in
        let node : z.node ≡ p.leaf = ap (λ (k : ℕ). record { 0 = k }) same.0 in
        let view : v ≡ p.view = e ∙ ap (view_at t) same.0 ∙ sym lead.view in
        ap Some (ap (λ q. record { leaf = q; start = z.start; view = v }) node ∙ ap (λ o. record { leaf = p.leaf; start = o; view = v }) same.1 ∙ ap (λ w. record { leaf = p.leaf; start = p.start; view = w }) view),
  )

  pub no_leaf : (x z : Span) (v : NodeView) → IsSpan t x → IsStand t x z → x.len ≤ z.len → v ≡ view_at t z.node.0 → IsBorder t z v x.len → (p : SpanPlace) → (None ≡ Some p) ↔ LeadsToSpan t x.len x.node.0 x.start p
  no_leaf x z v is stands long e border p = (
    λ same. absurd cc,
    λ lead.
        let on = to_leaf x z is stands long p.leaf.0 p.start lead.leads in
        elim (after_cat border.l border.r on.0 on.1 (sym e ∙ border.is_cat)) [ inl w ↦ absurd (omega (arith, w.0, border.past)) | inr w ↦ absurd (omega (arith, w.0, border.before)) ],
  )

  -- ---- to one place

  module _ (k o : ℕ) where
    -- from the last stop that is no lower than the place
    pub leads_from : (x z : Span) → IsSpan t x → IsStand t x z → x.len ≤ z.len → (k ≤ z.node.0) ⊎ (z ≡ x) → Leads t x.len k o x.node.0 x.start → Leads t x.len k o z.node.0 z.start
    leads_from x z is stands long either lead = elim either [
      | inl le ↦ leads_on t s h is.some is.there le (all_lead x z stands long) lead
      | inr same ↦ rw same lead
    ]

    pub leads_here : (x z : Span) → IsStand t x z → x.len ≤ z.len → z.node.0 ≡ k → z.start ≡ o → Leads t x.len k o x.node.0 x.start
    leads_here x z stands long at_node at_place = leads_through (all_lead x z stands long) (here at_node at_place)

    pub leads_below : (n : ℕ) (y z : Span) (v : NodeView) → 1 ≤ n → ¬ ((y.node.0 ≡ k) × (y.start ≡ o)) → v ≡ view_at t y.node.0 → Some z ≡ child_span t y v → Leads t n k o y.node.0 y.start → Leads t n k o z.node.0 z.start
    leads_below n y z (Lit a) some away e child lead = absurd cc
    leads_below n y z (Src r a) some away e child lead = absurd cc
    leads_below n y z Fun some away e child lead = absurd cc
    leads_below n y z (Cat l r) some away e child lead =
        let found : z ≡ cat_span t y l r = cc in
        let goes = after_cat_to l r lead away (sym e) in
        elim (cases_lt y.start (len_at t l.0)) [
          | inl before ↦ rw (found ∙ span_in_left t y l r before) (elim goes [ inl w ↦ w.1 | inr w ↦ absurd (omega (arith, w.0, before)) ])
          | inr past ↦ rw (found ∙ span_in_right t y l r past) (elim goes [ inl w ↦ absurd (omega (arith, w.0, past, some)) | inr w ↦ w.1 ])
        ]
    leads_below n y z (Sub b i) some away e child lead =
        let found : z ≡ record { node = b; start = y.start + i; len = y.len } = cc in
        rw found (after_sub_to b i lead away (sym e))

    pub leads_nowhere : (n : ℕ) (y : Span) (v : NodeView) → ¬ ((y.node.0 ≡ k) × (y.start ≡ o)) → v ≡ view_at t y.node.0 → IsLeaf v ⊎ IsBorder t y v n → ¬ Leads t n k o y.node.0 y.start
    leads_nowhere n y v away e (inl leaf) lead = at_leaf_to lead (subst IsLeaf e leaf) away
    leads_nowhere n y v away e (inr border) lead =
        elim (after_cat_to border.l border.r lead away (sym e ∙ border.is_cat)) [ inl w ↦ absurd (omega (arith, w.0, border.past)) | inr w ↦ absurd (omega (arith, w.0, border.before)) ]
