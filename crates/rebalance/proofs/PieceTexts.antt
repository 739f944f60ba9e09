-- The cells of pieces.
use Rattle.std.proofs.Common.{◌≡◌, ℕ, zero, suc, ◌+◌, ◌≤◌, ◌<◌, List, ◌∷◌, length, map, take, drop, refl, sym, ap, ◌∙◌, arith}
use Rattle.std.specs.List.{range_with_len}
use Rattle.rope_node.specs.declared.node.NodeId.{NodeId}
use Rattle.rope_node.specs.declared.node.NodeView.{NodeView}
use Rattle.rope_node.specs.declared.node.NodeView.TheVariants.{Lit, Src, Fun, Cat, Sub}
use Rattle.rope_node.specs.Table.{Table, view_at, len_at, IsFunction, IsSound, HasTrueRecords}
use Rattle.rope_node.specs.Denotes.{Cell, Byte, cells}
use Rattle.rope_node.proofs.Cells.{cells_at, cells_length}
use Rattle.rope_node.proofs.Parts.{span-map, span-range_with_len}
use Rattle.rope_store.proofs.PartTexts.{take_whole}

-- numbers written as bytes of a function from a place on
map_shifted : (f : ℕ → ℕ) (a b n : ℕ) → map Byte (map (λ k. f (a + k)) (range_with_len b n)) ≡ map (λ k. Byte (f k)) (range_with_len (a + b) n)
map_shifted f a b zero = refl
map_shifted f a b (suc n) =
    let next : a + (b + 1) ≡ (a + b) + 1 = omega arith in
    ap (λ (cs : List Cell). Byte (f (a + b)) ∷ cs) (map_shifted f a (b + 1) n ∙ ap (λ (j : ℕ). map (λ k. Byte (f k)) (range_with_len j n)) next)

pub is_fun : (v : NodeView) → IsFunction v → v ≡ Fun
is_fun (Lit a) h = absurd h
is_fun (Src s a) h = absurd h
is_fun Fun h = refl
is_fun (Cat l r) h = absurd h
is_fun (Sub b i) h = absurd h

-- the bytes that a function answers are the cells of its leaf
pub written_cells : (t : Table) → IsSound t → (leaf : NodeId) (start n : ℕ) → leaf.0 < length t.nodes → IsFunction (view_at t leaf.0) → start + n ≤ len_at t leaf.0
    → map Byte (map (λ k. t.answer leaf.0 (start + k)) (range_with_len 0 n)) ≡ take n (drop start (cells t leaf.0))
written_cells t s leaf start n there function fits =
    let all = range_with_len 0 (len_at t leaf.0) in
    let f : ℕ → Cell = λ k. Byte (t.answer leaf.0 k) in
    let first : start + 0 ≡ 0 + start = omega arith in
    map_shifted (t.answer leaf.0) start 0 n
    ∙ ap (λ (j : ℕ). map f (range_with_len j n)) first
    ∙ sym (ap (map f) (span-range_with_len n start 0 (len_at t leaf.0) fits))
    ∙ sym (span-map f n start all)
    ∙ sym (ap (λ cs. take n (drop start cs)) (cells_at t s leaf.0 there Fun (is_fun (view_at t leaf.0) function)))

-- a span as long as its leaf is all of it
pub whole_cells : (t : Table) → IsSound t → HasTrueRecords t → (leaf : NodeId) (start n : ℕ) → leaf.0 < length t.nodes → 1 ≤ n → start + n ≤ len_at t leaf.0 → n ≡ len_at t leaf.0 → cells t leaf.0 ≡ take n (drop start (cells t leaf.0))
whole_cells t s h leaf start n there some fits all =
    let len = cells_length t s h leaf.0 there in
    sym (take_whole (cells t leaf.0) start n (omega (arith, fits, all, len)) (omega (arith, all, len)) (omega (arith, some)))
