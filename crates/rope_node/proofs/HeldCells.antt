-- Each cell of a sound table is a byte, or a place inside a source.
use Rattle.std.proofs.Common.{ℕ, zero, suc, ◌+◌, ◌-◌, ◌<◌, List, map, length, get_or, take, drop, inl, inr, refl, sym, subst, ◌∙◌, arith}
use Rattle.std.specs.List.{slice_range, range_with_len}
use Rattle.std.proofs.lemmas.Bool.{cases_lt}
use Rattle.std.proofs.lemmas.List.{length-map, length-take, get_or-map, get_or_past, get_or-take, get_or-drop, get_or_append_left, get_or-append_right}
use Rattle.std.proofs.lemmas.List.FromFn.{length-range_with_len, get_or-range_with_len}
use Rattle.rope_node.specs.declared.node.NodeView.{NodeView}
use Rattle.rope_node.specs.declared.node.NodeView.TheVariants.{Lit, Src, Fun, Cat, Sub}
use Rattle.rope_node.specs.Table.{Table, view_at, len_at, HasGoodReferences, HasSpanInside, IsSound}
use Rattle.rope_node.specs.Denotes.{Cell, Byte, Place, cells, cell_at, node_cells}
use Rattle.rope_node.proofs.Cells.{cells_step}

-- a byte, or a place inside a source of the table
abbrev pub IsHeldCell : Table → Cell → Type 0
IsHeldCell t (Byte b) = Unit {0}
IsHeldCell t (Place s p) = (s < length t.sources) × (p < get_or t.sources s 0)

-- each of these cells, and what is read past their end
abbrev AreHeld : Table → List Cell → Type 0
AreHeld t cs = (i : ℕ) → IsHeldCell t (get_or cs i (Byte 0))

held_map : (t : Table) {X : Type 0} (f : X → Cell) (d : X) (xs : List X) → ((i : ℕ) → i < length xs → IsHeldCell t (f (get_or xs i d))) → AreHeld t (map f xs)
held_map t f d xs h i =
    elim (cases_lt i (length xs)) [
      | inl lt ↦ subst (IsHeldCell t) (sym (get_or-map f xs i d (Byte 0) lt)) (h i lt)
      | inr past ↦ subst (IsHeldCell t) (sym (get_or_past (map f xs) i (Byte 0) (rw length-map past))) tt
    ]

node_held : (t : Table) (below : ℕ → List Cell) (id n : ℕ) (v : NodeView) → HasGoodReferences t id v → HasSpanInside t n v → ((c : ℕ) → c < id → AreHeld t (below c)) → AreHeld t (node_cells t below id n v)
node_held t below id n (Lit a) s p h i = held_map t Byte 0 (slice_range t.pool a (a + n)) (λ j lt. tt) i
node_held t below id n (Src s' a) s p h i =
    held_map t (Place s') 0 (range_with_len a n) (λ j lt.
    let inside : j < n = rw length-range_with_len at lt in
    rw (get_or-range_with_len a n j 0 inside) (s, omega (arith, p))) i
node_held t below id n Fun s p h i = held_map t (λ k. Byte (t.answer id k)) 0 (range_with_len 0 n) (λ j lt. tt) i
node_held t below id n (Cat l r) s p h i =
    elim (cases_lt i (length (below l.0))) [
      | inl lt ↦ subst (IsHeldCell t) (sym (get_or_append_left (below l.0) (below r.0) (Byte 0) i lt)) (h l.0 s.0 i)
      | inr past ↦ subst (IsHeldCell t) (sym (get_or-append_right (below l.0) (below r.0) (length (below l.0)) i (Byte 0) refl past)) (h r.0 s.1 (i - length (below l.0)))
    ]
node_held t below id n (Sub b start) s p h i =
    elim (cases_lt i n) [
      | inl lt ↦ subst (IsHeldCell t) (sym (get_or-take n (drop start (below b.0)) i (Byte 0) lt ∙ get_or-drop start (below b.0) i (Byte 0))) (h b.0 s (start + i))
      | inr past ↦ subst (IsHeldCell t) (sym (get_or_past (take n (drop start (below b.0))) i (Byte 0) (omega (arith, length-take n (drop start (below b.0)))))) tt
    ]

held_by : (t : Table) → IsSound t → (m id : ℕ) → id < length t.nodes → id < m → AreHeld t (cells t id)
held_by t s zero id inside below = absurd (omega arith)
held_by t s (suc m) id inside below =
    subst (AreHeld t) (sym (cells_step t s id inside))
    (node_held t (cells t) id (len_at t id) (view_at t id) (s.nodes id inside).references (s.nodes id inside).span
    (λ c lt. held_by t s m c (omega arith) (omega arith)))

-- the cell at a place of a node
pub cell_held : (t : Table) → IsSound t → (id i : ℕ) → id < length t.nodes → IsHeldCell t (cell_at t id i)
cell_held t s id i inside = held_by t s (suc id) id inside (omega arith) i
