-- What leads say of cells.
use Rattle.std.proofs.Common.{◌≡◌, ℕ, ◌+◌, ◌<◌, ◌≤◌, length, take, drop, refl, arith}
use Rattle.rope_node.specs.declared.node.NodeView.TheVariants.{Cat, Sub}
use Rattle.rope_node.specs.Table.{Table, len_at, IsSound, HasTrueRecords}
use Rattle.rope_node.specs.Denotes.{cells}
use Rattle.rope_node.proofs.Cells.{cells_at, cells_length}
use Rattle.rope_node.proofs.Parts.{span_left, span_right, span_within}
use Rattle.span_descent.specs.Leads.{Leads, here, in_left, in_right, in_base}
use Rattle.rope_node.proofs.Children.{children_of_cat, base_of_sub}

-- where a span leads to lies in the table and in its node
pub leads_inside : (t : Table) → IsSound t → HasTrueRecords t → {n k o x p : ℕ} → 1 ≤ n → Leads t n k o x p → x < length t.nodes → p + n ≤ len_at t x → (k < length t.nodes) × (o + n ≤ len_at t k)
leads_inside t s h some (here e f) there inside = (rw (← e) there, rw (← e, ← f) inside)
leads_inside t s h {n} {k} {o} {x} {p} some (in_left l r e fits lead) there inside =
    let c = children_of_cat t s h x there l r e in
    leads_inside t s h some lead (omega (arith, c.0)) fits
leads_inside t s h {n} {k} {o} {x} {p} some (in_right l r e past lead) there inside =
    let c = children_of_cat t s h x there l r e in
    leads_inside t s h some lead (omega (arith, c.1)) (omega (arith, c.2))
leads_inside t s h {n} {k} {o} {x} {p} some (in_base b i e lead) there inside =
    let c = base_of_sub t s x there b i e in
    leads_inside t s h some lead (omega (arith, c.0)) (omega (arith, c.1))

-- the cells of a span are those that it leads to
pub leads_cells : (t : Table) → IsSound t → HasTrueRecords t → {n k o x p : ℕ} → 1 ≤ n → Leads t n k o x p → x < length t.nodes → p + n ≤ len_at t x → take n (drop p (cells t x)) ≡ take n (drop o (cells t k))
leads_cells t s h {n} some (here e f) there inside = rw (e, f) refl
leads_cells t s h {n} {k} {o} {x} {p} some (in_left l r e fits lead) there inside =
    let c = children_of_cat t s h x there l r e in
    let len = cells_length t s h l.0 (omega (arith, c.0)) in
    rw (cells_at t s x there (Cat l r) e, span_left n p (cells t l.0) (cells t r.0) (omega arith))
    (leads_cells t s h some lead (omega (arith, c.0)) fits)
leads_cells t s h {n} {k} {o} {x} {p} some (in_right l r e past lead) there inside =
    let c = children_of_cat t s h x there l r e in
    let len = cells_length t s h l.0 (omega (arith, c.0)) in
    rw (cells_at t s x there (Cat l r) e, span_right n p (cells t l.0) (cells t r.0) (omega arith), len)
    (leads_cells t s h some lead (omega (arith, c.1)) (omega (arith, c.2)))
leads_cells t s h {n} {k} {o} {x} {p} some (in_base b i e lead) there inside =
    let c = base_of_sub t s x there b i e in
    rw (cells_at t s x there (Sub b i) e, span_within n p (len_at t x) i (cells t b.0) inside)
    (leads_cells t s h some lead (omega (arith, c.0)) (omega (arith, c.1)))
