-- The way down from a node to the lowest node that holds a span.
use Rattle.std.proofs.Common.{◌≡◌, ℕ, ◌+◌, ◌-◌, ◌<◌, ◌≤◌, ◌⊎◌, inl, inr, ⊎_elim, length, take, drop, refl, sym, ap, subst, ◌∙◌, arith}
use Rattle.rope_node.specs.declared.node.NodeId.{NodeId}
use Rattle.rope_node.specs.declared.node.NodeView.{NodeView}
use Rattle.rope_node.specs.declared.node.NodeView.TheVariants.{Lit, Src, Fun, Cat, Sub}
use Rattle.rope_node.specs.Table.{Table, view_at, len_at, depth_at, IsLeaf, IsSound, HasTrueRecords}
use Rattle.rope_node.specs.Denotes.{cells}
use Rattle.rope_node.proofs.Cells.{cells_at, cells_length}
use Rattle.rope_node.proofs.Parts.{span_left, span_right, span_within}
use Rattle.rebalance.specs.Pieces.{LeadsWithin, LiesInChild, LeadsDown, here, in_left, in_right, in_base}

-- ---- the cells of a span of a node, one step down

cells_left : (t : Table) → IsSound t → HasTrueRecords t → (x p m : ℕ) (l r : NodeId) → x < length t.nodes → view_at t x ≡ Cat l r → p + m ≤ len_at t l.0 → take m (drop p (cells t x)) ≡ take m (drop p (cells t l.0))
cells_left t s h x p m l r there e fits =
    let first = rw e at (s.nodes x there).references in
    let left = cells_length t s h l.0 (omega (arith, first.0, there)) in
    ap (λ cs. take m (drop p cs)) (cells_at t s x there (Cat l r) e) ∙ span_left m p (cells t l.0) (cells t r.0) (omega (arith, left, fits))

cells_right : (t : Table) → IsSound t → HasTrueRecords t → (x p m : ℕ) (l r : NodeId) → x < length t.nodes → view_at t x ≡ Cat l r → len_at t l.0 ≤ p → take m (drop p (cells t x)) ≡ take m (drop (p - len_at t l.0) (cells t r.0))
cells_right t s h x p m l r there e past =
    let first = rw e at (s.nodes x there).references in
    let left : length (cells t l.0) ≡ len_at t l.0 = cells_length t s h l.0 (omega (arith, first.0, there)) in
    ap (λ cs. take m (drop p cs)) (cells_at t s x there (Cat l r) e)
    ∙ span_right m p (cells t l.0) (cells t r.0) (omega (arith, left, past))
    ∙ ap (λ j. take m (drop (p - j) (cells t r.0))) left

pub cells_below : (t : Table) → IsSound t → (x p m : ℕ) (b : NodeId) (i : ℕ) → x < length t.nodes → view_at t x ≡ Sub b i → p + m ≤ len_at t x → take m (drop p (cells t x)) ≡ take m (drop (p + i) (cells t b.0))
cells_below t s x p m b i there e fits =
    ap (λ cs. take m (drop p cs)) (cells_at t s x there (Sub b i) e) ∙ span_within m p (len_at t x) i (cells t b.0) fits

-- ---- the lowest node

-- the n bytes of node y from q on are those of node x from p on, and that is not deeper
pub record IsLower (t : Table) (y q n x p : ℕ) : Type 0 where
  pub there : x < length t.nodes
  pub inside : p + n ≤ len_at t x
  pub cells : take n (drop q (cells t y)) ≡ take n (drop p (cells t x))
  pub shallow : depth_at t x ≤ depth_at t y
  pub moved : ((x ≡ y) × (p ≡ q)) ⊎ (depth_at t x < depth_at t y)
  pub forth : (k o : ℕ) → LeadsDown t n k o x p → LeadsDown t n k o y q

leaf_has_no_child : (t : Table) (p n : ℕ) (view : NodeView) → IsLeaf view → ¬ LiesInChild t p n view
leaf_has_no_child t p n (Lit a) leaf lies = lies
leaf_has_no_child t p n (Src s a) leaf lies = lies
leaf_has_no_child t p n Fun leaf lies = lies
leaf_has_no_child t p n (Cat l r) leaf lies = leaf
leaf_has_no_child t p n (Sub b i) leaf lies = leaf

pub lower_begins : (t : Table) (y q n : ℕ) → y < length t.nodes → q + n ≤ len_at t y → IsLower t y q n y q
lower_begins t y q n there fits = record { there = there; inside = fits; cells = refl; shallow = omega arith; moved = inl (refl, refl); forth = λ k o leads. leads }

pub lower_left : (t : Table) → IsSound t → HasTrueRecords t → (y q n x p : ℕ) (l r : NodeId) → view_at t x ≡ Cat l r → n < len_at t x → p + n ≤ len_at t l.0 → IsLower t y q n x p → IsLower t y q n l.0 p
lower_left t s h y q n x p l r e some fits way =
    let first = rw e at (s.nodes x way.there).references in
    let depth = rw e at (h.nodes x way.there).depth in
    record {
      there = omega (arith, first.0, way.there);
      inside = fits;
      cells = way.cells ∙ cells_left t s h x p n l r way.there e fits;
      shallow = omega (arith, depth, way.shallow);
      moved = inr (omega (arith, depth, way.shallow));
      forth = λ k o leads. way.forth k o (in_left l r e some fits leads);
    }

pub lower_right : (t : Table) → IsSound t → HasTrueRecords t → (y q n x p : ℕ) (l r : NodeId) → view_at t x ≡ Cat l r → n < len_at t x → len_at t l.0 ≤ p → IsLower t y q n x p → IsLower t y q n r.0 (p - len_at t l.0)
lower_right t s h y q n x p l r e some past way =
    let first = rw e at (s.nodes x way.there).references in
    let len = rw e at (h.nodes x way.there).len in
    let depth = rw e at (h.nodes x way.there).depth in
    record {
      there = omega (arith, first.1, way.there);
      inside = omega (arith, len, way.inside, past);
      cells = way.cells ∙ cells_right t s h x p n l r way.there e past;
      shallow = omega (arith, depth, way.shallow);
      moved = inr (omega (arith, depth, way.shallow));
      forth = λ k o leads. way.forth k o (in_right l r e some past leads);
    }

pub lower_down : (t : Table) → IsSound t → HasTrueRecords t → (y q n x p : ℕ) (b : NodeId) (i : ℕ) → view_at t x ≡ Sub b i → n < len_at t x → IsLower t y q n x p → IsLower t y q n b.0 (p + i)
lower_down t s h y q n x p b i e some way =
    let first = rw e at (s.nodes x way.there).references in
    let held = rw e at (s.nodes x way.there).span in
    let depth = rw e at (h.nodes x way.there).depth in
    record {
      there = omega (arith, first, way.there);
      inside = omega (arith, held, way.inside);
      cells = way.cells ∙ cells_below t s x p n b i way.there e way.inside;
      shallow = omega (arith, depth, way.shallow);
      moved = inr (omega (arith, depth, way.shallow));
      forth = λ k o leads. way.forth k o (in_base b i e some leads);
    }

-- the way ends where no child holds the bytes
pub lower_is : (t : Table) (y q n : ℕ) (x : NodeId) (p : ℕ) → (n < len_at t x.0 → ¬ LiesInChild t p n (view_at t x.0)) → IsLower t y q n x.0 p → LeadsWithin t y q n (record { node = x; start = p; len = n })
lower_is t y q n x p lowest way = record {
  leads = way.forth x.0 p (here refl refl);
  there = way.there;
  inside = way.inside;
  len = refl;
  cells = way.cells;
  shallow = way.shallow;
  lowest = lowest;
  below = λ some lies.
      ⊎_elim (λ (same : (x.0 ≡ y) × (p ≡ q)). absurd (lowest (rw same.0 some) (rw (same.0, same.1) lies)))
      (λ (less : depth_at t x.0 < depth_at t y). less) way.moved;
}

pub lower_is_whole : (t : Table) (y q n : ℕ) (x : NodeId) (p : ℕ) → n ≡ len_at t x.0 → IsLower t y q n x.0 p → LeadsWithin t y q n (record { node = x; start = p; len = n })
lower_is_whole t y q n x p whole way = lower_is t y q n x p (λ some. absurd (omega (arith, whole, some))) way

pub lower_is_leaf : (t : Table) (y q n : ℕ) (x : NodeId) (p : ℕ) → IsLeaf (view_at t x.0) → IsLower t y q n x.0 p → LeadsWithin t y q n (record { node = x; start = p; len = n })
lower_is_leaf t y q n x p leaf way = lower_is t y q n x p (λ _. leaf_has_no_child t p n (view_at t x.0) leaf) way

pub lower_is_cut : (t : Table) (y q n : ℕ) (x : NodeId) (p : ℕ) (l r : NodeId) → view_at t x.0 ≡ Cat l r → p < len_at t l.0 → len_at t l.0 < p + n → IsLower t y q n x.0 p → LeadsWithin t y q n (record { node = x; start = p; len = n })
lower_is_cut t y q n x p l r e before past way =
    lower_is t y q n x p (λ some. rw e (λ (lies : (p + n ≤ len_at t l.0) ⊎ (len_at t l.0 ≤ p)). ⊎_elim (λ (left : p + n ≤ len_at t l.0). omega (arith, left, past)) (λ (right : len_at t l.0 ≤ p). omega (arith, right, before)) lies)) way

-- ---- where bytes lead down

-- they are not all of a node and lie in one child of it
abbrev pub GoesDown : Table → ℕ → ℕ → ℕ → Type 0
GoesDown t n x p = (n < len_at t x) × LiesInChild t p n (view_at t x)

-- bytes that no child holds stand where they lead to
pub stays_here : (t : Table) {n k o x p : ℕ} → LeadsDown t n k o x p → ¬ GoesDown t n x p → (x ≡ k) × (p ≡ o)
stays_here t (here same at) stuck = (same, at)
stays_here t (in_left l r e some fits down) stuck = absurd (stuck (some, rw e (inl fits)))
stays_here t (in_right l r e some past down) stuck = absurd (stuck (some, rw e (inr past)))
stays_here t (in_base b i e some down) stuck = absurd (stuck (some, rw e tt))

-- bytes of a concatenation that lie in one child lead down from that child, and those of a substring from its base
down_left : (t : Table) {n k o x p : ℕ} (l r : NodeId) → view_at t x ≡ Cat l r → 1 ≤ n → n < len_at t x → p + n ≤ len_at t l.0 → LeadsDown t n k o x p → ¬ GoesDown t n k o → LeadsDown t n k o l.0 p
down_left t {n} {k} {o} {x} {p} l r e many some fits (here same at) ends = absurd (ends (rw (sym same, sym at) (some, rw e (inl fits))))
down_left t {n} {k} {o} {x} {p} l r e many some fits (in_left l' r' e' some' fits' down) ends =
    let same : l' ≡ l = cc in
    subst (λ (y : NodeId). LeadsDown t n k o y.0 p) same down
down_left t {n} {k} {o} {x} {p} l r e many some fits (in_right l' r' e' some' past down) ends =
    let same : l' ≡ l = cc in
    let past' : len_at t l.0 ≤ p = subst (λ (y : NodeId). len_at t y.0 ≤ p) same past in
    absurd (omega (arith, many, fits, past'))
down_left t l r e many some fits (in_base b i e' some' down) ends = absurd cc

down_right : (t : Table) {n k o x p : ℕ} (l r : NodeId) → view_at t x ≡ Cat l r → 1 ≤ n → n < len_at t x → len_at t l.0 ≤ p → LeadsDown t n k o x p → ¬ GoesDown t n k o → LeadsDown t n k o r.0 (p - len_at t l.0)
down_right t {n} {k} {o} {x} {p} l r e many some past (here same at) ends = absurd (ends (rw (sym same, sym at) (some, rw e (inr past))))
down_right t {n} {k} {o} {x} {p} l r e many some past (in_left l' r' e' some' fits down) ends =
    let same : l' ≡ l = cc in
    let fits' : p + n ≤ len_at t l.0 = subst (λ (y : NodeId). p + n ≤ len_at t y.0) same fits in
    absurd (omega (arith, many, fits', past))
down_right t {n} {k} {o} {x} {p} l r e many some past (in_right l' r' e' some' past' down) ends =
    let same_l : l' ≡ l = cc in
    let same_r : r' ≡ r = cc in
    subst (λ (y : NodeId). LeadsDown t n k o r.0 (p - len_at t y.0)) same_l (subst (λ (z : NodeId). LeadsDown t n k o z.0 (p - len_at t l'.0)) same_r down)
down_right t l r e many some past (in_base b i e' some' down) ends = absurd cc

down_base : (t : Table) {n k o x p : ℕ} (b : NodeId) (i : ℕ) → view_at t x ≡ Sub b i → n < len_at t x → LeadsDown t n k o x p → ¬ GoesDown t n k o → LeadsDown t n k o b.0 (p + i)
down_base t {n} {k} {o} {x} {p} b i e some (here same at) ends = absurd (ends (rw (sym same, sym at) (some, rw e tt)))
down_base t b i e some (in_left l r e' some' fits down) ends = absurd cc
down_base t b i e some (in_right l r e' some' past down) ends = absurd cc
down_base t {n} {k} {o} {x} {p} b i e some (in_base b' i' e' some' down) ends =
    let same_b : b' ≡ b = cc in
    let same_i : i' ≡ i = cc in
    subst (λ (y : NodeId). LeadsDown t n k o y.0 (p + i)) same_b (subst (λ (j : ℕ). LeadsDown t n k o b'.0 (p + j)) same_i down)

-- so there is one lowest node that they lead to
pub lowest_is_one : (t : Table) {n k o k' o' x p : ℕ} → 1 ≤ n → LeadsDown t n k o x p → ¬ GoesDown t n k o → LeadsDown t n k' o' x p → ¬ GoesDown t n k' o' → (k ≡ k') × (o ≡ o')
lowest_is_one t {n} {k} {o} many (here same at) ends other ends' =
    let stays = stays_here t other (λ down. ends (rw (sym same, sym at) down)) in
    (sym same ∙ stays.0, sym at ∙ stays.1)
lowest_is_one t many (in_left l r e some fits down) ends other ends' = lowest_is_one t many down ends (down_left t l r e many some fits other ends') ends'
lowest_is_one t many (in_right l r e some past down) ends other ends' = lowest_is_one t many down ends (down_right t l r e many some past other ends') ends'
lowest_is_one t many (in_base b i e some down) ends other ends' = lowest_is_one t many down ends (down_base t b i e some other ends') ends'

-- and it has all of them
pub leads_inside : (t : Table) → IsSound t → HasTrueRecords t → {n k o x p : ℕ} → LeadsDown t n k o x p → x < length t.nodes → p + n ≤ len_at t x → o + n ≤ len_at t k
leads_inside t s h {n} {k} {o} {x} {p} (here same at) there inside = rw (sym same, sym at) inside
leads_inside t s h {n} {k} {o} {x} {p} (in_left l r e some fits down) there inside =
    let first = rw e at (s.nodes x there).references in
    leads_inside t s h down (omega (arith, first.0, there)) fits
leads_inside t s h {n} {k} {o} {x} {p} (in_right l r e some past down) there inside =
    let first = rw e at (s.nodes x there).references in
    let len = rw e at (h.nodes x there).len in
    leads_inside t s h down (omega (arith, first.1, there)) (omega (arith, len, inside, past))
leads_inside t s h {n} {k} {o} {x} {p} (in_base b i e some down) there inside =
    let first = rw e at (s.nodes x there).references in
    let held = rw e at (s.nodes x there).span in
    leads_inside t s h down (omega (arith, first, there)) (omega (arith, held, inside))
