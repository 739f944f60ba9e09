-- Where the rows that the walk down gives end: one byte more of a side leads only to nodes above.
use Rattle.std.proofs.Common.{◌≡◌, ℕ, ◌+◌, ◌-◌, ◌<◌, ◌≤◌, min, ◌⊎◌, inl, inr, length, refl, sym, ◌∙◌, arith, subst}
use Rattle.std.proofs.lemmas.Bool.{cases_lt, lt-ltb, le-ltb}
use Rattle.rope_node.specs.declared.node.NodeView.TheVariants.{Cat, Sub}
use Rattle.rope_node.specs.Table.{Table, view_at, len_at, IsLeaf, IsSound, HasTrueRecords}
use Rattle.rope_node.specs.Path.{span_at}
use Rattle.rope_node.proofs.LeafSpans.{span_step, rest_at}
use Rattle.span_certificate.specs.declared.row.RowKind.{RowKind}
use Rattle.span_certificate.specs.declared.row.RowKind.TheVariants.{Shared, Leaf, Bytes}
use Rattle.rope_node.specs.declared.node.Span.{Span}
use Rattle.span_descent.specs.Leads.{Leads, here, in_left, in_right, in_base}
use Rattle.span_descent.specs.Descents.{OnlyAbove, IsStand}
use Rattle.span_certificate.specs.Longest.{LieInLeaf, SpansStayWithin, GoesToLeafEnd}
use Rattle.span_descent.specs.Steps.{IsReached}
use Rattle.rope_node.specs.Steps.{IsSpan}
use Rattle.span_descent.proofs.Descents.{at_leaf}
use Rattle.rope_node.proofs.Children.{children_of_cat, base_of_sub}
use Rattle.span_descent.proofs.Steps.{leads_shorter, reached_shorter}
use Rattle.span_certificate.proofs.Walks.{AreReached}
use Rattle.span_descent.proofs.Cuts.{leads_on}

-- the spans that x and y lead to are as long as they, or one byte more of one side leads only to nodes above
pub record AreWalked (t : Table) (x y a b : Span) : Type 0 where
  pub reached : AreReached t x y a b
  pub cut : a.len < x.len → OnlyAbove t a.len x a.node ⊎ OnlyAbove t a.len y b.node

module _ (t : Table) (s : IsSound t) (h : HasTrueRecords t) where
  -- of ways down two spans of one length, the shorter stand tells where both are cut
  pub both_stand : (x y a b : Span) (n : ℕ) → y.len ≡ x.len → IsStand t x a → IsStand t y b → n ≡ min a.len b.len → AreWalked t x y (record a { len = n }) (record b { len = n })
  both_stand x y a b n same of_a of_b e =
      let some : 1 ≤ n = omega (arith, e, of_a.reached.is_span.some, of_b.reached.is_span.some) in
      record {
        reached = record {
          first = reached_shorter t x a n some (omega (arith, e)) of_a.reached;
          second = reached_shorter t y b n some (omega (arith, e)) of_b.reached;
          len = refl;
        };
        cut = λ short. elim (cases_lt n a.len) [
          | inl less ↦
              let at_b : b.len ≡ n = omega (arith, e, less) in
              inr (subst (λ (m : ℕ). OnlyAbove t m y b.node) at_b (of_b.cut (omega (arith, at_b, same, short))))
          | inr whole ↦
              let at_a : a.len ≡ n = omega (arith, e, whole) in
              inl (subst (λ (m : ℕ). OnlyAbove t m x a.node) at_a (of_a.cut (omega (arith, at_a, short))))
        ];
      }

  -- one byte more does not stay in the node that both lead to
  pub shared_ends : (x y a b : Span) → AreWalked t x y a b → a.node.0 ≡ b.node.0 → a.len < x.len → ¬ SpansStayWithin t (a.len + 1) x y (Shared a.node a.start)
  shared_ends x y a b are same short stay = elim (are.cut short) [
    | inl above ↦ absurd (omega (arith, above a.node.0 a.start stay.0))
    | inr above ↦ absurd (omega (arith, same, above a.node.0 a.start stay.1))
  ]

  -- nor in a leaf
  past_leaf : (x a : Span) → x.node.0 < length t.nodes → IsReached t x a → OnlyAbove t a.len x a.node → ¬ LieInLeaf t (a.len + 1) x.node.0 x.start
  past_leaf x a there reached above (k, o, lead) =
      let higher = above k o lead.0 in
      let on = leads_on t s h reached.is_span.some there (omega (arith, higher)) (leads_shorter (omega arith) lead.0) reached.leads in
      absurd (omega (arith, higher, (at_leaf on lead.1).0))

  past_leaves : (x y a b : Span) → IsSpan t x → IsSpan t y → AreWalked t x y a b → (n : ℕ) → n ≡ a.len → n < x.len → LieInLeaf t (n + 1) x.node.0 x.start → LieInLeaf t (n + 1) y.node.0 y.start → ⊥
  past_leaves x y a b is_x is_y are n e short in_x in_y = elim (are.cut (omega (arith, e, short))) [
    | inl above ↦ past_leaf x a is_x.there are.reached.first above (rw e at in_x)
    | inr above ↦ past_leaf y b is_y.there are.reached.second (rw (sym are.reached.len) at above) (rw (e ∙ sym are.reached.len) at in_y)
  ]

  -- so a row over the leaf spans that both begin with is the longest
  pub leaves_end : (x y a b : Span) → IsSpan t x → IsSpan t y → AreWalked t x y a b → (n : ℕ) (kind : RowKind) → GoesToLeafEnd a.len n kind → n < x.len → ¬ SpansStayWithin t (n + 1) x y kind
  leaves_end x y a b is_x is_y are n (Shared k o) ends short stay = ends
  leaves_end x y a b is_x is_y are n Leaf ends short stay = past_leaves x y a b is_x is_y are n ends short stay.0 stay.1
  leaves_end x y a b is_x is_y are n Bytes ends short stay = past_leaves x y a b is_x is_y are n (omega (arith, ends, stay.0)) short stay.1 stay.2

  -- ---- beside a part that is itself a leaf span

  -- what lies in one leaf lies in the leaf span that begins there
  lies_in_first : {n k o x p : ℕ} → 1 ≤ n → Leads t n k o x p → IsLeaf (view_at t k) → x < length t.nodes → p + n ≤ len_at t x → n ≤ (span_at t x p).len
  lies_in_first {n} {k} {o} {x} {p} some (here e f) leaf there inside =
      let rest = rest_at t s x p there (view_at t x) refl (rw (← e) at leaf) in
      rw rest (omega (arith, inside))
  lies_in_first {n} {k} {o} {x} {p} some (in_left l r e fits lead) leaf there inside =
      let c = children_of_cat t s h x there l r e in
      let step = rw (lt-ltb p (len_at t l.0) (omega (arith, fits, some))) at (span_step t s x p there (Cat l r) e) in
      rw step (lies_in_first some lead leaf (omega (arith, c.0, there)) fits)
  lies_in_first {n} {k} {o} {x} {p} some (in_right l r e past lead) leaf there inside =
      let c = children_of_cat t s h x there l r e in
      let step = rw (le-ltb p (len_at t l.0) past) at (span_step t s x p there (Cat l r) e) in
      rw step (lies_in_first some lead leaf (omega (arith, c.1, there)) (omega (arith, c.2, past, inside)))
  lies_in_first {n} {k} {o} {x} {p} some (in_base b i e lead) leaf there inside =
      let c = base_of_sub t s x there b i e in
      let swap : i + p ≡ p + i = omega arith in
      let step = rw swap at (span_step t s x p there (Sub b i) e) in
      let few = lies_in_first some lead leaf (omega (arith, c.0, there)) (omega (arith, c.1, inside)) in
      rw step (omega (arith, few, inside))

  pub beside_end : (x place left n : ℕ) → x < length t.nodes → place + left ≤ len_at t x → n ≡ min left (span_at t x place).len → n < left → ¬ LieInLeaf t (n + 1) x place
  beside_end x place left n there inside whole short (k, o, lead) =
      let few = lies_in_first (omega arith) lead.0 lead.1 there (omega (arith, inside, short)) in
      absurd (omega (arith, few, whole, short))
