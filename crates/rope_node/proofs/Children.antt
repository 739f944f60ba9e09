-- Children of a node: their numbers, lengths, depths and cells, and the child's span of a span.
use Rattle.std.proofs.Common.{◌≡◌, ℕ, ◌+◌, ◌-◌, ◌<◌, ◌≤◌, ◌++◌, max, min, length, drop, get_or, Some, inl, inr, refl, sym, ap, subst, ◌∙◌, arith}
use Rattle.std.proofs.lemmas.Bool.{cases_lt, lt-ltb, le-ltb}
use Rattle.std.proofs.lemmas.List.{get_or-append-add, get_or_append_left, get_or-take, get_or-drop}
use Rattle.rope_node.specs.declared.node.NodeId.{NodeId}
use Rattle.rope_node.specs.declared.node.NodeView.{NodeView}
use Rattle.rope_node.specs.declared.node.NodeView.TheVariants.{Lit, Src, Fun, Cat, Sub}
use Rattle.rope_node.specs.declared.node.Span.{Span}
use Rattle.rope_node.specs.Table.{Table, view_at, len_at, depth_at, IsSound, HasTrueRecords}
use Rattle.rope_node.specs.Denotes.{Byte, cell_at, cells}
use Rattle.rope_node.specs.Steps.{HasFirstCells, IsSpan, SameCells, cat_span, child_span, span_behind}
use Rattle.rope_node.proofs.Cells.{cells_at, cells_length}

-- what is known of a concatenation, and of a substring, in a sound table with true records
pub children_of_cat : (t : Table) → IsSound t → HasTrueRecords t → (x : ℕ) → x < length t.nodes → (l r : NodeId) → view_at t x ≡ Cat l r → (l.0 < x) × (r.0 < x) × (len_at t x ≡ len_at t l.0 + len_at t r.0)
children_of_cat t s h x inside l r e =
    let children = rw e at (s.nodes x inside).references in
    let len = rw e at (h.nodes x inside).len in
    (children.0, children.1, len)

pub base_of_sub : (t : Table) → IsSound t → (x : ℕ) → x < length t.nodes → (b : NodeId) (i : ℕ) → view_at t x ≡ Sub b i → (b.0 < x) × (i + len_at t x ≤ len_at t b.0)
base_of_sub t s x inside b i e =
    let base = rw e at (s.nodes x inside).references in
    let held = rw e at (s.nodes x inside).span in
    (base, held)

pub depths_of_cat : (t : Table) → HasTrueRecords t → (x : ℕ) → x < length t.nodes → (l r : NodeId) → view_at t x ≡ Cat l r → (depth_at t l.0 < depth_at t x) × (depth_at t r.0 < depth_at t x)
depths_of_cat t h x there l r e =
    let depth : depth_at t x ≡ 1 + max (depth_at t l.0) (depth_at t r.0) = rw e at (h.nodes x there).depth in
    (omega (arith, depth), omega (arith, depth))

pub depth_of_base : (t : Table) → HasTrueRecords t → (x : ℕ) → x < length t.nodes → (b : NodeId) (i : ℕ) → view_at t x ≡ Sub b i → depth_at t b.0 < depth_at t x
depth_of_base t h x there b i e =
    let depth : depth_at t x ≡ 1 + depth_at t b.0 = rw e at (h.nodes x there).depth in
    omega (arith, depth)

-- a node's cells by those of its children
left_cell : (t : Table) → IsSound t → HasTrueRecords t → (id k : ℕ) (l r : NodeId) → id < length t.nodes → view_at t id ≡ Cat l r → k < len_at t l.0 → cell_at t id k ≡ cell_at t l.0 k
left_cell t s h id k l r there e lt =
    let below = rw e at (s.nodes id there).references in
    let long = cells_length t s h l.0 (omega (arith, below.0, there)) in
    ap (λ cs. get_or cs k (Byte 0)) (cells_at t s id there (Cat l r) e) ∙ get_or_append_left (cells t l.0) (cells t r.0) (Byte 0) k (omega (arith, lt, long))

right_cell : (t : Table) → IsSound t → HasTrueRecords t → (id k j : ℕ) (l r : NodeId) → id < length t.nodes → view_at t id ≡ Cat l r → k ≡ len_at t l.0 + j → cell_at t id k ≡ cell_at t r.0 j
right_cell t s h id k j l r there e is =
    let below = rw e at (s.nodes id there).references in
    let long = cells_length t s h l.0 (omega (arith, below.0, there)) in
    ap (λ cs. get_or cs k (Byte 0)) (cells_at t s id there (Cat l r) e)
    ∙ ap (λ (p : ℕ). get_or (cells t l.0 ++ cells t r.0) p (Byte 0)) (omega (arith, is, long)) ∙ get_or-append-add (cells t l.0) (cells t r.0) j (Byte 0)

base_cell : (t : Table) → IsSound t → (id k : ℕ) (b : NodeId) (i : ℕ) → id < length t.nodes → view_at t id ≡ Sub b i → k < len_at t id → cell_at t id k ≡ cell_at t b.0 (i + k)
base_cell t s id k b i there e lt =
    ap (λ cs. get_or cs k (Byte 0)) (cells_at t s id there (Sub b i) e)
    ∙ get_or-take (len_at t id) (drop i (cells t b.0)) k (Byte 0) lt ∙ get_or-drop i (cells t b.0) k (Byte 0)

-- n cells of a node from place i on are those of its child
left_cells : (t : Table) → IsSound t → HasTrueRecords t → (x l r : NodeId) (i n : ℕ) → x.0 < length t.nodes → view_at t x.0 ≡ Cat l r → i + n ≤ len_at t l.0 → SameCells t x l i i n
left_cells t s h x l r i n there e fits =
    let below = rw e at (s.nodes x.0 there).references in
    let len = rw e at (h.nodes x.0 there).len in
    record {
      here = omega (arith, cells_length t s h x.0 there, len, fits);
      there = omega (arith, cells_length t s h l.0 (omega (arith, below.0, there)), fits);
      each = λ k lt. left_cell t s h x.0 (i + k) l r there e (omega (arith, lt, fits));
    }

right_cells : (t : Table) → IsSound t → HasTrueRecords t → (x l r : NodeId) (i j n : ℕ) → x.0 < length t.nodes → view_at t x.0 ≡ Cat l r → i ≡ len_at t l.0 + j → i + n ≤ len_at t x.0 → SameCells t x r i j n
right_cells t s h x l r i j n there e is fits =
    let below = rw e at (s.nodes x.0 there).references in
    let len = rw e at (h.nodes x.0 there).len in
    record {
      here = omega (arith, cells_length t s h x.0 there, fits);
      there = omega (arith, cells_length t s h r.0 (omega (arith, below.1, there)), len, fits, is);
      each = λ k lt. right_cell t s h x.0 (i + k) (j + k) l r there e (omega (arith, is));
    }

base_cells : (t : Table) → IsSound t → HasTrueRecords t → (x b : NodeId) (o i n : ℕ) → x.0 < length t.nodes → view_at t x.0 ≡ Sub b o → i + n ≤ len_at t x.0 → SameCells t x b i (i + o) n
base_cells t s h x b o i n there e fits =
    let below = rw e at (s.nodes x.0 there).references in
    let held = rw e at (s.nodes x.0 there).span in
    record {
      here = omega (arith, cells_length t s h x.0 there, fits);
      there = omega (arith, cells_length t s h b.0 (omega (arith, below, there)), held, fits);
      each = λ k lt. base_cell t s x.0 (i + k) b o there e (omega (arith, lt, fits)) ∙ ap (cell_at t b.0) (omega arith);
    }

-- the child span of a concatenation, on either side of its border
pub span_in_left : (t : Table) (x : Span) (l r : NodeId) → x.start < len_at t l.0 → cat_span t x l r ≡ record { node = l; start = x.start; len = min x.len (len_at t l.0 - x.start) }
span_in_left t x l r before = rw (lt-ltb x.start (len_at t l.0) before) refl

pub span_in_right : (t : Table) (x : Span) (l r : NodeId) → len_at t l.0 ≤ x.start → cat_span t x l r ≡ record { node = r; start = x.start - len_at t l.0; len = x.len }
span_in_right t x l r past = rw (le-ltb x.start (len_at t l.0) past) refl

-- a child's span has the cells that the span begins with
module _ (t : Table) (s : IsSound t) (h : HasTrueRecords t) where
  first_in_left : (x : Span) (l r : NodeId) → IsSpan t x → view_at t x.node.0 ≡ Cat l r → x.start < len_at t l.0 → HasFirstCells t x (record { node = l; start = x.start; len = min x.len (len_at t l.0 - x.start) })
  first_in_left x l r is e before =
      let c = children_of_cat t s h x.node.0 is.there l r e in
      record {
        few = omega arith;
        is_span = record { there = omega (arith, c.0, is.there); some = omega (arith, is.some); inside = omega arith };
        lower = c.0;
        shallower = (depths_of_cat t h x.node.0 is.there l r e).0;
        same = left_cells t s h x.node l r x.start (min x.len (len_at t l.0 - x.start)) is.there e (omega arith);
      }

  first_in_right : (x : Span) (l r : NodeId) (j : ℕ) → IsSpan t x → view_at t x.node.0 ≡ Cat l r → x.start ≡ len_at t l.0 + j → HasFirstCells t x (record { node = r; start = j; len = x.len })
  first_in_right x l r j is e past =
      let c = children_of_cat t s h x.node.0 is.there l r e in
      record {
        few = omega arith;
        is_span = record { there = omega (arith, c.1, is.there); some = is.some; inside = omega (arith, c.2, is.inside, past) };
        lower = c.1;
        shallower = (depths_of_cat t h x.node.0 is.there l r e).1;
        same = right_cells t s h x.node l r x.start j x.len is.there e past is.inside;
      }

  first_in_base : (x : Span) (b : NodeId) (i : ℕ) → IsSpan t x → view_at t x.node.0 ≡ Sub b i → HasFirstCells t x (record { node = b; start = x.start + i; len = x.len })
  first_in_base x b i is e =
      let base = base_of_sub t s x.node.0 is.there b i e in
      record {
        few = omega arith;
        is_span = record { there = omega (arith, base.0, is.there); some = is.some; inside = omega (arith, base.1, is.inside) };
        lower = base.0;
        shallower = depth_of_base t h x.node.0 is.there b i e;
        same = base_cells t s h x.node b i x.start x.len is.there e is.inside;
      }

  pub child_cells : (x z : Span) (v : NodeView) → IsSpan t x → v ≡ view_at t x.node.0 → Some z ≡ child_span t x v → HasFirstCells t x z
  child_cells x z (Lit a) is e child = absurd cc
  child_cells x z (Src r a) is e child = absurd cc
  child_cells x z Fun is e child = absurd cc
  child_cells x z (Cat l r) is e child =
      let found : z ≡ cat_span t x l r = cc in
      elim (cases_lt x.start (len_at t l.0)) [
        | inl before ↦ subst (HasFirstCells t x) (sym (found ∙ span_in_left t x l r before)) (first_in_left x l r is (sym e) before)
        | inr past ↦ subst (HasFirstCells t x) (sym (found ∙ span_in_right t x l r past)) (first_in_right x l r (x.start - len_at t l.0) is (sym e) (omega (arith, past)))
      ]
  child_cells x z (Sub b i) is e child =
      let found : z ≡ record { node = b; start = x.start + i; len = x.len } = cc in
      subst (HasFirstCells t x) (sym found) (first_in_base x b i is (sym e))

  -- what is left of a span behind its left child's bytes lies in the right child
  pub other_cells : (x a : Span) (l r : NodeId) → IsSpan t x → view_at t x.node.0 ≡ Cat l r → a.len < x.len → x.start + a.len ≡ len_at t l.0 → HasFirstCells t (span_behind x a.len) (record { node = r; start = 0; len = x.len - a.len })
  other_cells x a l r is e fewer ends = first_in_right (span_behind x a.len) l r 0 (record { there = is.there; some = omega (arith, fewer); inside = omega (arith, is.inside, fewer) }) e (omega (arith, ends))
