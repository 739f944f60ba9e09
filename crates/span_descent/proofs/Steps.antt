-- Leads of shorter spans and leads one behind the other, and what a step down keeps.
use Rattle.std.proofs.Common.{◌≡◌, ℕ, ◌+◌, ◌-◌, ◌≤◌, min, Some, inl, inr, refl, sym, ◌∙◌, arith}
use Rattle.std.proofs.lemmas.Bool.{cases_lt}
use Rattle.rope_node.specs.declared.node.NodeView.{NodeView}
use Rattle.rope_node.specs.declared.node.NodeView.TheVariants.{Lit, Src, Fun, Cat, Sub}
use Rattle.rope_node.specs.declared.node.Span.{Span}
use Rattle.rope_node.specs.Table.{Table, view_at, len_at, IsSound, HasTrueRecords}
use Rattle.rope_node.specs.Steps.{IsSpan, cat_span, child_span}
use Rattle.rope_node.proofs.Children.{child_cells, span_in_left, span_in_right}
use Rattle.span_descent.specs.Leads.{Leads, here, in_left, in_right, in_base}
use Rattle.span_descent.specs.Steps.{IsReached, IsBelow}

-- what a span leads to, its first bytes lead to
pub leads_shorter : {t : Table} {n m k o x p : ℕ} → m ≤ n → Leads t n k o x p → Leads t m k o x p
leads_shorter le (here e f) = here e f
leads_shorter le (in_left l r e fits lead) = in_left l r e (omega arith) (leads_shorter le lead)
leads_shorter le (in_right l r e past lead) = in_right l r e past (leads_shorter le lead)
leads_shorter le (in_base b i e lead) = in_base b i e (leads_shorter le lead)

-- where a span leads, what is there leads on
pub leads_through : {t : Table} {n k o y q x p : ℕ} → Leads t n y q x p → Leads t n k o y q → Leads t n k o x p
leads_through {t} {n} {k} {o} {y} {q} {x} {p} (here e f) on = rw (e, f) on
leads_through (in_left l r e fits lead) on = in_left l r e fits (leads_through lead on)
leads_through (in_right l r e past lead) on = in_right l r e past (leads_through lead on)
leads_through (in_base b i e lead) on = in_base b i e (leads_through lead on)

pub reached_itself : (t : Table) (x : Span) → IsSpan t x → IsReached t x x
reached_itself t x is = record { few = omega arith; is_span = is; leads = here refl refl }

pub reached_through : (t : Table) (x y z : Span) → IsReached t x y → IsReached t y z → IsReached t x z
reached_through t x y z a b = record {
  few = omega (arith, a.few, b.few);
  is_span = b.is_span;
  leads = leads_through (leads_shorter b.few a.leads) b.leads;
}

pub reached_shorter : (t : Table) (x y : Span) (n : ℕ) → 1 ≤ n → n ≤ y.len → IsReached t x y → IsReached t x (record y { len = n })
reached_shorter t x y n some le a = record {
  few = omega (arith, a.few);
  is_span = record { there = a.is_span.there; some = some; inside = omega (arith, a.is_span.inside) };
  leads = leads_shorter le a.leads;
}

-- a span leads to its child's
child_leads : (t : Table) (x z : Span) (v : NodeView) → v ≡ view_at t x.node.0 → Some z ≡ child_span t x v → Leads t z.len z.node.0 z.start x.node.0 x.start
child_leads t x z (Lit a) e child = absurd cc
child_leads t x z (Src r a) e child = absurd cc
child_leads t x z Fun e child = absurd cc
child_leads t x z (Cat l r) e child =
    let found : z ≡ cat_span t x l r = cc in
    elim (cases_lt x.start (len_at t l.0)) [
      | inl before ↦ rw (found ∙ span_in_left t x l r before) (in_left {p = x.start} l r (sym e) (omega arith) (here refl refl))
      | inr past ↦ rw (found ∙ span_in_right t x l r past) (in_right {p = x.start} l r (sym e) past (here refl refl))
    ]
child_leads t x z (Sub b i) e child =
    let found : z ≡ record { node = b; start = x.start + i; len = x.len } = cc in
    rw found (in_base {p = x.start} b i (sym e) (here refl refl))

pub child_below : (t : Table) → IsSound t → HasTrueRecords t → (x z : Span) (v : NodeView) → IsSpan t x → v ≡ view_at t x.node.0 → Some z ≡ child_span t x v → IsBelow t x z
child_below t s h x z v is e child =
    let cells = child_cells t s h x z v is e child in
    record { lower = cells.lower; shallower = cells.shallower; reached = record { few = cells.few; is_span = cells.is_span; leads = child_leads t x z v e child } }
