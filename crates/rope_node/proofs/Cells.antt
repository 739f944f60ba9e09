-- Laws of cells: one step of the denotation, its length, and its bytes.
use Rattle.std.proofs.Common.{◌≡◌, ℕ, zero, suc, ◌<◌, List, length, refl, sym, ap, ◌∙◌, arith}
use Rattle.std.proofs.lemmas.List.{length-append, length-take, length-drop, length-map}
use Rattle.std.proofs.lemmas.List.FromFn.{length-map-range_with_len}
use Rattle.rope_node.specs.declared.node.NodeView.{NodeView}
use Rattle.rope_node.specs.declared.node.NodeView.TheVariants.{Lit, Src, Fun, Cat, Sub}
use Rattle.rope_node.specs.Table.{Table, view_at, len_at, HasGoodReferences, HasSpanInside, IsSound, HasTrueLength, HasTrueRecords}
use Rattle.rope_node.specs.Denotes.{Cell, Byte, Place, cells, cells_in, node_cells}

-- a node's cells depend on its children's alone
node_cells_alike : (t : Table) (f g : ℕ → List Cell) (id n : ℕ) (v : NodeView) → HasGoodReferences t id v → ((c : ℕ) → c < id → f c ≡ g c) → node_cells t f id n v ≡ node_cells t g id n v
node_cells_alike t f g id n (Lit a) s h = refl
node_cells_alike t f g id n (Src s' a) s h = refl
node_cells_alike t f g id n Fun s h = refl
node_cells_alike t f g id n (Cat l r) s h = rw (h l.0 s.0, h r.0 s.1) refl
node_cells_alike t f g id n (Sub b i) s h = rw (h b.0 s) refl

-- any two numbers of steps above the node's own give the same cells
steps_enough : (t : Table) → IsSound t → (m n id : ℕ) → id < length t.nodes → id < m → id < n → cells_in t m id ≡ cells_in t n id
steps_enough t s zero n id inside a b = absurd (omega arith)
steps_enough t s (suc m) zero id inside a b = absurd (omega arith)
steps_enough t s (suc m) (suc n) id inside a b =
    node_cells_alike t (cells_in t m) (cells_in t n) id (len_at t id) (view_at t id) (s.nodes id inside).references
    (λ c lt. steps_enough t s m n c (omega arith) (omega arith) (omega arith))

-- a node's cells are those of its children, put together
pub cells_step : (t : Table) → IsSound t → (id : ℕ) → id < length t.nodes → cells t id ≡ node_cells t (cells t) id (len_at t id) (view_at t id)
cells_step t s id inside =
    node_cells_alike t (cells_in t id) (cells t) id (len_at t id) (view_at t id) (s.nodes id inside).references
    (λ c lt. steps_enough t s id (suc c) c (omega arith) lt (omega arith))

-- the cells of a view are as many as the node is long, where its children's are
length-node_cells : (t : Table) (below : ℕ → List Cell) (id n : ℕ) (v : NodeView) → HasGoodReferences t id v → HasSpanInside t n v → HasTrueLength t n v → ((c : ℕ) → c < id → length (below c) ≡ len_at t c) → length (node_cells t below id n v) ≡ n
length-node_cells t below id n (Lit a) s p h k = simp (length-map, length-take, length-drop) (omega arith)
length-node_cells t below id n (Src s' a) s p h k = length-map-range_with_len (Place s') a n
length-node_cells t below id n Fun s p h k = length-map-range_with_len (λ k. Byte (t.answer id k)) 0 n
length-node_cells t below id n (Cat l r) s p h k = rw (length-append, k l.0 s.0, k r.0 s.1) (sym h)
length-node_cells t below id n (Sub b i) s p h k = rw (length-take, length-drop, k b.0 s) (omega arith)

length_by : (t : Table) → IsSound t → HasTrueRecords t → (m id : ℕ) → id < length t.nodes → id < m → length (cells t id) ≡ len_at t id
length_by t s h zero id inside below = absurd (omega arith)
length_by t s h (suc m) id inside below =
    rw (cells_step t s id inside)
    (length-node_cells t (cells t) id (len_at t id) (view_at t id) (s.nodes id inside).references (s.nodes id inside).span (h.nodes id inside).len
    (λ c lt. length_by t s h m c (omega arith) (omega arith)))

-- the recorded length is the number of cells
pub cells_length : (t : Table) → IsSound t → HasTrueRecords t → (id : ℕ) → id < length t.nodes → length (cells t id) ≡ len_at t id
cells_length t s h id inside = length_by t s h (suc id) id inside (omega arith)

-- one step of the denotation, where it is known what the node is
pub cells_at : (t : Table) → IsSound t → (id : ℕ) → id < length t.nodes → (v : NodeView) → view_at t id ≡ v → cells t id ≡ node_cells t (cells t) id (len_at t id) v
cells_at t s id inside v is = cells_step t s id inside ∙ ap (node_cells t (cells t) id (len_at t id)) is
