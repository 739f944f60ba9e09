-- What stays of the nodes of a table that goes on.
use Rattle.std.proofs.Common.{◌≡◌, ℕ, zero, suc, ◌<◌, ◌≤◌, List, map, length, refl, sym, ap, ◌∙◌, arith}
use Rattle.std.specs.List.{range_with_len}
use Rattle.rope_node.specs.declared.node.NodeView.{NodeView}
use Rattle.rope_node.specs.declared.node.NodeView.TheVariants.{Lit, Src, Fun, Cat, Sub}
use Rattle.rope_node.specs.Table.{Node, Table, view_at, len_at, depth_at, depth_of, HasGoodReferences, HasSpanInside, HasTrueLength, IsSoundNode, IsSound, IsTrueNode}
use Rattle.rope_node.specs.Denotes.{Cell, Byte, cells, cells_in, node_cells}
use Rattle.rope_node.specs.Extends.{Extends}

pub len_kept : (old new : Table) → Extends old new → (id : ℕ) → id < length old.nodes → len_at new id ≡ len_at old id
len_kept old new x id inside = ap (λ (n : Node). n.len) (x.nodes id inside)

pub depth_kept : (old new : Table) → Extends old new → (id : ℕ) → id < length old.nodes → depth_at new id ≡ depth_at old id
depth_kept old new x id inside = ap (λ (n : Node). n.depth) (x.nodes id inside)

pub view_kept : (old new : Table) → Extends old new → (id : ℕ) → id < length old.nodes → view_at new id ≡ view_at old id
view_kept old new x id inside = ap (λ (n : Node). n.view) (x.nodes id inside)

-- ---- cells

node_cells_kept : (old new : Table) → Extends old new → (f g : ℕ → List Cell) (id n : ℕ) (v : NodeView) → id < length old.nodes → HasGoodReferences old id v → HasSpanInside old n v → ((c : ℕ) → c < id → f c ≡ g c) → node_cells new f id n v ≡ node_cells old g id n v
node_cells_kept old new x f g id n (Lit a) inside s p h = ap (map Byte) (x.pool a n p)
node_cells_kept old new x f g id n (Src s' a) inside s p h = refl
node_cells_kept old new x f g id n Fun inside s p h = ap (λ (answer : ℕ → ℕ). map (λ k. Byte (answer k)) (range_with_len 0 n)) (x.answer id inside)
node_cells_kept old new x f g id n (Cat l r) inside s p h = rw (h l.0 s.0, h r.0 s.1) refl
node_cells_kept old new x f g id n (Sub b i) inside s p h = rw (h b.0 s) refl

cells_in_kept : (old new : Table) → IsSound old → Extends old new → (m id : ℕ) → id < length old.nodes → id < m → cells_in new m id ≡ cells_in old m id
cells_in_kept old new s x zero id inside below = absurd (omega arith)
cells_in_kept old new s x (suc m) id inside below =
    ap (λ (n : Node). node_cells new (cells_in new m) id n.len n.view) (x.nodes id inside)
    ∙ node_cells_kept old new x (cells_in new m) (cells_in old m) id (len_at old id) (view_at old id) inside (s.nodes id inside).references (s.nodes id inside).span
    (λ c lt. cells_in_kept old new s x m c (omega arith) (omega arith))

-- an earlier node keeps its cells
pub cells_kept : (old new : Table) → IsSound old → Extends old new → (id : ℕ) → id < length old.nodes → cells new id ≡ cells old id
cells_kept old new s x id inside = cells_in_kept old new s x (suc id) id inside (omega arith)

-- ---- rules

references_kept : (old new : Table) → Extends old new → (id : ℕ) (v : NodeView) → HasGoodReferences old id v → HasGoodReferences new id v
references_kept old new x id (Lit a) s = tt
references_kept old new x id (Src s' a) s = omega (arith, x.more_sources)
references_kept old new x id Fun s = tt
references_kept old new x id (Cat l r) s = s
references_kept old new x id (Sub b i) s = s

span_kept : (old new : Table) → Extends old new → (id n : ℕ) (v : NodeView) → id ≤ length old.nodes → HasGoodReferences old id v → HasSpanInside old n v → HasSpanInside new n v
span_kept old new x id n (Lit a) le s p = omega (arith, x.more_pool)
span_kept old new x id n (Src s' a) le s p = rw (x.sources s' s) p
span_kept old new x id n Fun le s p = tt
span_kept old new x id n (Cat l r) le s p = tt
span_kept old new x id n (Sub b i) le s p = let there : b.0 < length old.nodes = omega arith in rw (len_kept old new x b.0 there) p

true_length_kept : (old new : Table) → Extends old new → (id n : ℕ) (v : NodeView) → id ≤ length old.nodes → HasGoodReferences old id v → HasTrueLength old n v → HasTrueLength new n v
true_length_kept old new x id n (Lit a) le s h = tt
true_length_kept old new x id n (Src s' a) le s h = tt
true_length_kept old new x id n Fun le s h = tt
true_length_kept old new x id n (Cat l r) le s h =
    let first : l.0 < length old.nodes = omega (arith, s.0) in
    let second : r.0 < length old.nodes = omega (arith, s.1) in
    rw (len_kept old new x l.0 first, len_kept old new x r.0 second) h
true_length_kept old new x id n (Sub b i) le s h = tt

depth_of_kept : (old new : Table) → Extends old new → (id : ℕ) (v : NodeView) → id ≤ length old.nodes → HasGoodReferences old id v → depth_of new v ≡ depth_of old v
depth_of_kept old new x id (Lit a) le s = refl
depth_of_kept old new x id (Src s' a) le s = refl
depth_of_kept old new x id Fun le s = refl
depth_of_kept old new x id (Cat l r) le s =
    let first : l.0 < length old.nodes = omega (arith, s.0) in
    let second : r.0 < length old.nodes = omega (arith, s.1) in
    rw (depth_kept old new x l.0 first, depth_kept old new x r.0 second) refl
depth_of_kept old new x id (Sub b i) le s = let there : b.0 < length old.nodes = omega arith in rw (depth_kept old new x b.0 there) refl

-- a node that keeps the rules, at a number that the older table has or is the next, keeps them
pub sound_kept : (old new : Table) → Extends old new → (id : ℕ) (n : Node) → id ≤ length old.nodes → IsSoundNode old id n → IsSoundNode new id n
sound_kept old new x id n le s = record {
  references = references_kept old new x id n.view s.references;
  not_empty = s.not_empty;
  not_long = s.not_long;
  not_deep = s.not_deep;
  span = span_kept old new x id n.len n.view le s.references s.span;
}

pub true_kept : (old new : Table) → Extends old new → (id : ℕ) (n : Node) → id ≤ length old.nodes → IsSoundNode old id n → IsTrueNode old n → IsTrueNode new n
true_kept old new x id n le s h = record {
  len = true_length_kept old new x id n.len n.view le s.references h.len;
  depth = h.depth ∙ sym (depth_of_kept old new x id n.view le s.references);
}
