-- The cell at a place of a leaf.
use Rattle.std.proofs.Common.{◌≡◌, ℕ, ◌+◌, ◌-◌, ◌<◌, ◌≤◌, length, get_or, drop, sym, ap, ◌∙◌, arith}
use Rattle.std.specs.List.{slice_range, range_with_len}
use Rattle.std.proofs.lemmas.List.{length-take, length-drop, get_or-map, get_or-take, get_or-drop}
use Rattle.std.proofs.lemmas.List.FromFn.{length-range_with_len, get_or-range_with_len}
use Rattle.rope_node.specs.declared.node.NodeView.{NodeView}
use Rattle.rope_node.specs.declared.node.NodeView.TheVariants.{Lit, Src, Fun, Cat, Sub}
use Rattle.rope_node.specs.Table.{Table, view_at, len_at, IsSound, IsLiteral, literal_bytes}
use Rattle.rope_node.specs.Denotes.{Byte, Place, cell_at}
use Rattle.rope_node.proofs.Cells.{cells_at}

-- a literal's bytes from a place inside on are some, and the first is that of the place
pub literal_first : (t : Table) → IsSound t → (id start : ℕ) → id < length t.nodes → start < len_at t id → (w : NodeView) → view_at t id ≡ w → IsLiteral w
    → (1 ≤ length (literal_bytes t start (len_at t id) w)) × (cell_at t id start ≡ Byte (get_or (literal_bytes t start (len_at t id) w) 0 0))
literal_first t s id start lt inside (Lit a) e literal =
    let n = len_at t id in
    let held = rw e at (s.nodes id lt).span in
    let here = slice_range t.pool a (a + n) in
    let rest = slice_range t.pool (a + start) (a + n) in
    let many : length here ≡ n = omega (arith, length-take ((a + n) - a) (drop a t.pool), length-drop a t.pool, held) in
    let some : 1 ≤ length rest = omega (arith, length-take ((a + n) - (a + start)) (drop (a + start) t.pool), length-drop (a + start) t.pool, held) in
    let left : get_or here start 0 ≡ get_or t.pool (a + start) 0 = get_or-take ((a + n) - a) (drop a t.pool) start 0 (omega (arith, inside)) ∙ get_or-drop a t.pool start 0 in
    let right : get_or rest 0 0 ≡ get_or t.pool (a + start) 0 =
    get_or-take ((a + n) - (a + start)) (drop (a + start) t.pool) 0 0 (omega (arith, inside)) ∙ get_or-drop (a + start) t.pool 0 0 ∙ ap (λ j. get_or t.pool j 0) (omega arith) in (
      some,
      ap (λ cs. get_or cs start (Byte 0)) (cells_at t s id lt (Lit a) e) ∙ get_or-map Byte here start 0 (Byte 0) (rw many inside) ∙ ap Byte (left ∙ sym right),
    )
literal_first t s id start lt inside (Src s' a) e literal = absurd literal
literal_first t s id start lt inside Fun e literal = absurd literal
literal_first t s id start lt inside (Cat l r) e literal = absurd literal
literal_first t s id start lt inside (Sub b i) e literal = absurd literal

-- a part of a source begins at its place
pub source_cell : (t : Table) → IsSound t → (id start s' a : ℕ) → id < length t.nodes → start < len_at t id → view_at t id ≡ Src s' a → cell_at t id start ≡ Place s' (a + start)
source_cell t s id start s' a lt inside e =
    let n = len_at t id in
    ap (λ cs. get_or cs start (Byte 0)) (cells_at t s id lt (Src s' a) e)
    ∙ get_or-map (Place s') (range_with_len a n) start 0 (Byte 0) (rw length-range_with_len inside)
    ∙ ap (Place s') (get_or-range_with_len a n start 0 inside)

-- a function answers from its place 0 on
pub function_cell : (t : Table) → IsSound t → (id start : ℕ) → id < length t.nodes → start < len_at t id → view_at t id ≡ Fun → cell_at t id start ≡ Byte (t.answer id start)
function_cell t s id start lt inside e =
    let n = len_at t id in
    ap (λ cs. get_or cs start (Byte 0)) (cells_at t s id lt Fun e)
    ∙ get_or-map (λ k. Byte (t.answer id k)) (range_with_len 0 n) start 0 (Byte 0) (rw length-range_with_len inside)
    ∙ ap (λ k. Byte (t.answer id k)) (get_or-range_with_len 0 n start 0 inside ∙ omega arith)
