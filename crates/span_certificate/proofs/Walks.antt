-- What two leaf spans of the same cells are, and the rows that the walk down gives.
use Rattle.std.proofs.Common.{◌≡◌, ℕ, ◌+◌, ◌%◌, ◌<◌, ◌≤◌, min, List, map, length, take, drop, Some, refl, sym, ap, subst, ◌∙◌, arith}
use Rattle.std.specs.List.{range_with_len, slice_range, take-map}
use Rattle.std.proofs.lemmas.List.{take-take}
use Rattle.std.proofs.lemmas.List.FromFn.{get_or-map-range_with_len, take-map-range_with_len}
use Rattle.std.specs.Prelude.{get_or}
use Rattle.std.proofs.lemmas.Simd.{map-map}
use Rattle.function_leaf.specs.declared.coded.Coded.{Coded}
use Rattle.function_leaf.specs.declared.coded.Coded.TheVariants.{Fill, Ramp, Cycle}
use Rattle.rope_node.specs.declared.node.NodeId.{NodeId}
use Rattle.rope_node.specs.declared.node.NodeView.{NodeView}
use Rattle.rope_node.specs.declared.node.NodeView.TheVariants.{Lit, Src, Fun, Cat, Sub}
use Rattle.rope_node.specs.Table.{Table, view_at, len_at, IsLeaf, IsSound, HasTrueRecords}
use Rattle.rope_node.specs.Denotes.{Cell, Byte, Place, cells}
use Rattle.rope_node.proofs.Cells.{cells_at}
use Rattle.rope_node.proofs.Parts.{span-map, span-range_with_len}
use Rattle.span_descent.specs.declared.description.Description.{Description}
use Rattle.span_descent.specs.declared.description.Description.TheVariants.{Pooled, Sourced, Computed}
use Rattle.span_certificate.specs.declared.row.Row.{Row}
use Rattle.span_certificate.specs.declared.row.RowKind.{RowKind}
use Rattle.span_certificate.specs.declared.row.RowKind.TheVariants.{Shared, Leaf, Bytes}
use Rattle.rope_node.specs.declared.node.Span.{Span}
use Rattle.span_descent.specs.Leads.{here, leaf_description, coded_description}
use Rattle.span_certificate.specs.declared.walk.TheConstants.{BYTES_LIMIT}
use Rattle.span_certificate.specs.SpanRows.{SpansFit, IsRowOf, CellsAs, DescribedFits, IsDescribedRow, AreBytes}
use Rattle.span_descent.specs.Steps.{span_cells, IsReached}
use Rattle.rope_node.specs.Steps.{IsSpan}
use Rattle.span_descent.proofs.Steps.{leads_shorter, leads_through}
use Rattle.span_descent.proofs.Cells.{leads_cells}

-- the first bytes of x and y lead to a and b, of one length
pub record AreReached (t : Table) (x y a b : Span) : Type 0 where
  pub first : IsReached t x a
  pub second : IsReached t y b
  pub len : b.len ≡ a.len

-- the cells of what is reached are the first ones of where it is reached from
pub reached_cells : (t : Table) → IsSound t → HasTrueRecords t → (x z : Span) → IsSpan t x → IsReached t x z → span_cells t z ≡ take z.len (span_cells t x)
reached_cells t s h x z is a =
    sym (leads_cells t s h a.is_span.some a.leads is.there (omega (arith, a.few, is.inside)))
    ∙ sym (take-take z.len x.len (drop x.start (cells t x.node.0)) a.few)

-- so where the spans at the start have the same cells, the reached ones have
pub reached_same : (t : Table) → IsSound t → HasTrueRecords t → (x y a b : Span) → IsSpan t x → IsSpan t y → AreReached t x y a b → span_cells t x ≡ span_cells t y → span_cells t a ≡ span_cells t b
reached_same t s h x y a b is_x is_y are same =
    reached_cells t s h x a is_x are.first
    ∙ ap (λ (n : ℕ). take n (span_cells t x)) (sym are.len) ∙ ap (take b.len) same
    ∙ sym (reached_cells t s h y b is_y are.second)

computed_as : (n : ℕ) (d : Description) (f : Coded) (o : ℕ) (cs : List Cell) → Some (coded_description o f) ≡ Some d → AreBytes cs → CellsAs n d cs
computed_as n d (Fill c) o cs e bytes = let same : Computed (Fill c) 0 ≡ d = cc in rw (← same) bytes
computed_as n d (Ramp c) o cs e bytes = let same : Computed (Ramp ((c + o) % 256)) 0 ≡ d = cc in rw (← same) bytes
computed_as n d (Cycle p) o cs e bytes = let same : Computed (Cycle p) (o % length p) ≡ d = cc in rw (← same) bytes

pub leaf_as : (t : Table) → IsSound t → (k o n : ℕ) → k < length t.nodes → o + n ≤ len_at t k → (f : Coded) (v : NodeView) → view_at t k ≡ v → (d : Description) → leaf_description f o v ≡ Some d → CellsAs n d (take n (drop o (cells t k)))
leaf_as t s k o n there inside f (Lit a) is d e =
    let same : Pooled (a + o) ≡ d = cc in
    rw (← same, cells_at t s k there (Lit a) is)
    (take n (drop o (slice_range t.pool a (a + len_at t k))), span-map Byte n o (slice_range t.pool a (a + len_at t k)))
leaf_as t s k o n there inside f (Src s' a) is d e =
    let same : Sourced s' (a + o) ≡ d = cc in
    rw (← same, cells_at t s k there (Src s' a) is)
    (span-map (Place s') n o (range_with_len a (len_at t k)) ∙ ap (map (Place s')) (span-range_with_len n o a (len_at t k) inside))
leaf_as t s k o n there inside f Fun is d e =
    let bytes : AreBytes (take n (drop o (cells t k))) =
    rw (cells_at t s k there Fun is) (
      map (t.answer k) (take n (drop o (range_with_len 0 (len_at t k)))),
      span-map (λ j. Byte (t.answer k j)) n o (range_with_len 0 (len_at t k)) ∙ sym (map-map Byte (t.answer k) (take n (drop o (range_with_len 0 (len_at t k))))),
    ) in
    computed_as n d f o (take n (drop o (cells t k))) e bytes
leaf_as t s k o n there inside f (Cat l r) is d e = absurd cc
leaf_as t s k o n there inside f (Sub b i) is d e = absurd cc

places_same : (s r a b n : ℕ) → 1 ≤ n → map (Place s) (range_with_len a n) ≡ map (Place r) (range_with_len b n) → (s ≡ r) × (a ≡ b)
places_same s r a b n some e =
    let first : Place s a ≡ Place r b =
    sym (get_or-map-range_with_len (Place s) a n 0 a (Byte 0) some (omega arith))
    ∙ ap (λ cs. get_or cs 0 (Byte 0)) e
    ∙ get_or-map-range_with_len (Place r) b n 0 b (Byte 0) some (omega arith) in
    (cc, cc)

-- cells that have two different descriptions are bytes
pub differing : (n : ℕ) (d e : Description) (cs : List Cell) → 1 ≤ n → CellsAs n d cs → CellsAs n e cs → ¬ (d ≡ e) → AreBytes cs
differing n (Pooled a) e cs some of_d of_e other = of_d
differing n (Computed f i) e cs some of_d of_e other = of_d
differing n (Sourced s a) (Pooled b) cs some of_d of_e other = of_e
differing n (Sourced s a) (Computed f i) cs some of_d of_e other = of_e
differing n (Sourced s a) (Sourced r b) cs some of_d of_e other =
    let same = places_same s r a b n some (sym of_d ∙ of_e) in
    absurd (other (ap (λ z. Sourced z a) same.0 ∙ ap (Sourced r) same.1))

pub bytes_take : (n : ℕ) (cs : List Cell) → AreBytes cs → AreBytes (take n cs)
bytes_take n cs (bytes, e) = (take n bytes, ap (take n) e ∙ take-map Byte n bytes)

-- two leaf spans of the same cells, one length and these descriptions
pub record AreLeaves (t : Table) (coded : ℕ → Coded) (x y : Span) (d e : Description) : Type 0 where
  pub is_x : IsSpan t x
  pub is_y : IsSpan t y
  pub len : y.len ≡ x.len
  pub leaf_x : IsLeaf (view_at t x.node.0)
  pub leaf_y : IsLeaf (view_at t y.node.0)
  pub same : span_cells t x ≡ span_cells t y
  pub of_x : leaf_description (coded x.node.0) x.start (view_at t x.node.0) ≡ Some d
  pub of_y : leaf_description (coded y.node.0) y.start (view_at t y.node.0) ≡ Some e

as_span : (t : Table) → IsSound t → (coded : ℕ → Coded) (x : Span) (d : Description) → IsSpan t x → leaf_description (coded x.node.0) x.start (view_at t x.node.0) ≡ Some d → CellsAs x.len d (span_cells t x)
as_span t s coded x d is e = leaf_as t s x.node.0 x.start x.len is.there is.inside (coded x.node.0) (view_at t x.node.0) refl d e

fit_at_leaves : (t : Table) → IsSound t → (coded : ℕ → Coded) (x y : Span) (d e : Description) → AreLeaves t coded x y d e → (n : ℕ) (kind : RowKind)
    → (kind ≡ Leaf → (d ≡ e) × (n ≡ x.len)) → (kind ≡ Bytes → ¬ (d ≡ e) × (n ≡ min x.len BYTES_LIMIT)) → ((k : NodeId) (o : ℕ) → ¬ (kind ≡ Shared k o))
    → (1 ≤ n) × (n ≤ x.len) × SpansFit t coded x y n kind
fit_at_leaves t s coded x y d e are n (Shared k o) leaf bytes shared = absurd (shared k o refl)
fit_at_leaves t s coded x y d e are n Leaf leaf bytes shared =
    let facts = leaf refl in
    let some : 1 ≤ n = omega (arith, facts.1, are.is_x.some) in
    let few : n ≤ x.len = omega (arith, facts.1) in
    (some, few, (d, (x.node.0, x.start, (here refl refl, are.leaf_x), are.of_x), (y.node.0, y.start, (here refl refl, are.leaf_y), are.of_y ∙ ap Some (sym facts.0))))
fit_at_leaves t s coded x y d e are n Bytes leaf bytes shared =
    let facts = bytes refl in
    let some : 1 ≤ n = omega (arith, facts.1, are.is_x.some) in
    let few : n ≤ x.len = omega (arith, facts.1) in
    let limit : n ≤ BYTES_LIMIT = omega (arith, facts.1) in
    let of_y : CellsAs x.len e (span_cells t x) = rw (are.same, ← are.len) (as_span t s coded y e are.is_y are.of_y) in
    let over : AreBytes (span_cells t y) = rw (← are.same) (differing x.len d e (span_cells t x) are.is_x.some (as_span t s coded x d are.is_x are.of_x) of_y facts.0) in
    let short : n ≤ y.len = omega (arith, few, are.len) in
    (some, few, (limit, subst AreBytes (take-take n y.len (drop y.start (cells t y.node.0)) short) (bytes_take n (span_cells t y) over)))

pub row_at_leaves : (t : Table) → IsSound t → (coded : ℕ → Coded) (x y : Span) (d e : Description) → AreLeaves t coded x y d e → (row : Row)
    → (row.kind ≡ Leaf → (d ≡ e) × (row.len ≡ x.len)) → (row.kind ≡ Bytes → ¬ (d ≡ e) × (row.len ≡ min x.len BYTES_LIMIT)) → ((k : NodeId) (o : ℕ) → ¬ (row.kind ≡ Shared k o))
    → IsRowOf t coded x y row
row_at_leaves t s coded x y d e are row leaf bytes shared =
    let fit = fit_at_leaves t s coded x y d e are row.len row.kind leaf bytes shared in
    record { some = fit.0; few = fit.1; fits = fit.2 }

-- a row for what is reached is one for where it is reached from
through : (t : Table) → IsSound t → HasTrueRecords t → (coded : ℕ → Coded) (x y a b : Span) → IsSpan t y → AreReached t x y a b → (n : ℕ) → 1 ≤ n → n ≤ a.len → (kind : RowKind) → SpansFit t coded a b n kind → SpansFit t coded x y n kind
through t s h coded x y a b is_y are n some few (Shared k o) fits =
    (leads_through (leads_shorter few are.first.leads) fits.0, leads_through (leads_shorter (omega (arith, few, are.len)) are.second.leads) fits.1)
through t s h coded x y a b is_y are n some few Leaf (d, (k, o, lead, is), (k', o', lead', is')) = (
  d,
  (k, o, (leads_through (leads_shorter few are.first.leads) lead.0, lead.1), is),
  (k', o', (leads_through (leads_shorter (omega (arith, few, are.len)) are.second.leads) lead'.0, lead'.1), is'),
)
through t s h coded x y a b is_y are n some few Bytes fits =
    let short : n ≤ b.len = omega (arith, few, are.len) in
    (fits.0, subst AreBytes (sym (leads_cells t s h some (leads_shorter short are.second.leads) is_y.there (omega (arith, short, are.second.few, is_y.inside)))) fits.1)

pub row_through : (t : Table) → IsSound t → HasTrueRecords t → (coded : ℕ → Coded) (x y a b : Span) (row : Row) → IsSpan t y → AreReached t x y a b → IsRowOf t coded a b row → IsRowOf t coded x y row
row_through t s h coded x y a b row is_y are is = record {
  some = is.some;
  few = omega (arith, is.few, are.first.few);
  fits = through t s h coded x y a b is_y are row.len is.some is.few row.kind is.fits;
}

-- fewer of the cells of a description
pub as_shorter : (n m : ℕ) (d : Description) (cs : List Cell) → m ≤ n → CellsAs n d cs → CellsAs m d (take m cs)
as_shorter n m (Pooled a) cs le of_d = bytes_take m cs of_d
as_shorter n m (Sourced s a) cs le of_d = ap (take m) of_d ∙ take-map-range_with_len (Place s) a n m le
as_shorter n m (Computed f i) cs le of_d = bytes_take m cs of_d

-- the leaf span z that span y begins with, of description e, beside one of description d
pub record MeetsLeaf (t : Table) (coded : ℕ → Coded) (d e : Description) (y z : Span) : Type 0 where
  pub is_y : IsSpan t y
  pub reached : IsReached t y z
  pub leaf : IsLeaf (view_at t z.node.0)
  pub cells : CellsAs y.len d (span_cells t y)
  pub of_z : leaf_description (coded z.node.0) z.start (view_at t z.node.0) ≡ Some e

described_fit : (t : Table) → IsSound t → HasTrueRecords t → (coded : ℕ → Coded) (d e : Description) (y z : Span) → MeetsLeaf t coded d e y z → (n : ℕ) (kind : RowKind)
    → (kind ≡ Leaf → (d ≡ e) × (n ≡ z.len)) → (kind ≡ Bytes → ¬ (d ≡ e) × (n ≡ min z.len BYTES_LIMIT)) → ((k : NodeId) (o : ℕ) → ¬ (kind ≡ Shared k o))
    → (1 ≤ n) × (n ≤ y.len) × DescribedFits t coded d y n kind
described_fit t s h coded d e y z m n (Shared k o) leaf bytes shared = absurd (shared k o refl)
described_fit t s h coded d e y z m n Leaf leaf bytes shared =
    let facts = leaf refl in
    let some : 1 ≤ n = omega (arith, facts.1, m.reached.is_span.some) in
    let few : n ≤ y.len = omega (arith, facts.1, m.reached.few) in
    let short : n ≤ z.len = omega (arith, facts.1) in
    (some, few, (z.node.0, z.start, (leads_shorter short m.reached.leads, m.leaf), m.of_z ∙ ap Some (sym facts.0)))
described_fit t s h coded d e y z m n Bytes leaf bytes shared =
    let facts = bytes refl in
    let some : 1 ≤ n = omega (arith, facts.1, m.reached.is_span.some) in
    let short : n ≤ z.len = omega (arith, facts.1) in
    let few : n ≤ y.len = omega (arith, short, m.reached.few) in
    let limit : n ≤ BYTES_LIMIT = omega (arith, facts.1) in
    let same = reached_cells t s h y z m.is_y m.reached in
    let of_d : CellsAs z.len d (span_cells t z) = rw same (as_shorter y.len z.len d (span_cells t y) m.reached.few m.cells) in
    let over : AreBytes (span_cells t z) = differing z.len d e (span_cells t z) m.reached.is_span.some of_d (as_span t s coded z e m.reached.is_span m.of_z) facts.0 in
    let here : AreBytes (take n (span_cells t z)) = bytes_take n (span_cells t z) over in
    let there : take n (span_cells t z) ≡ take n (drop y.start (cells t y.node.0)) =
    ap (take n) same ∙ take-take n z.len (span_cells t y) short ∙ take-take n y.len (drop y.start (cells t y.node.0)) few in
    (some, few, (limit, subst AreBytes there here))

pub described_row_fits : (t : Table) → IsSound t → HasTrueRecords t → (coded : ℕ → Coded) (d e : Description) (y z : Span) → MeetsLeaf t coded d e y z → (row : Row)
    → (row.kind ≡ Leaf → (d ≡ e) × (row.len ≡ z.len)) → (row.kind ≡ Bytes → ¬ (d ≡ e) × (row.len ≡ min z.len BYTES_LIMIT)) → ((k : NodeId) (o : ℕ) → ¬ (row.kind ≡ Shared k o))
    → IsDescribedRow t coded d y row
described_row_fits t s h coded d e y z m row leaf bytes shared =
    let fit = described_fit t s h coded d e y z m row.len row.kind leaf bytes shared in
    record { some = fit.0; few = fit.1; fits = fit.2 }
