-- Descriptions: which cells they denote, and what a descent tells of them.
use Rattle.std.proofs.Common.{◌≡◌, ℕ, zero, suc, ◌+◌, ◌-◌, ◌%◌, ◌^◌, ◌<◌, ◌≤◌, ◌∷◌, map, length, take, drop, Some, refl, sym, ap, subst, ◌∙◌, arith, add-zero}
use Rattle.std.specs.Prelude.{slice_index}
use Rattle.std.specs.List.{range_with_len, slice_range}
use Rattle.std.proofs.Math.Nat.{mod-add-mod, mod-le}
use Rattle.function_leaf.specs.declared.coded.Coded.{Coded}
use Rattle.function_leaf.specs.declared.coded.Coded.TheVariants.{Fill, Ramp, Cycle}
use Rattle.function_leaf.specs.Coded.{coded_byte}
use Rattle.rope_node.specs.declared.node.NodeView.{NodeView}
use Rattle.rope_node.specs.declared.node.NodeView.TheVariants.{Lit, Src, Fun, Cat, Sub}
use Rattle.rope_node.specs.Table.{Table, view_at, len_at, IsSound}
use Rattle.rope_node.specs.Denotes.{Cell, Byte, Place, cells}
use Rattle.rope_node.specs.Coded.{AnswersCoded}
use Rattle.rope_node.proofs.Cells.{cells_at}
use Rattle.rope_node.proofs.Parts.{span_within, span-map, span-range_with_len}
use Rattle.span_descent.specs.declared.description.Description.{Description}
use Rattle.span_descent.specs.declared.description.Description.TheVariants.{Pooled, Sourced}
use Rattle.span_descent.specs.Leads.{coded_description, leaf_description, described_cells, HasRoom, Describes}

-- two functions that answer the same from two places on
same_answers : (f g : ℕ → Cell) (n a b : ℕ) → ((k : ℕ) → f (a + k) ≡ g (b + k)) → map f (range_with_len a n) ≡ map g (range_with_len b n)
same_answers f g zero a b h = refl
same_answers f g (suc n) a b h =
    let first : f a ≡ g b = rw (add-zero a, add-zero b) at (h 0) in
    let rest : map f (range_with_len (a + 1) n) ≡ map g (range_with_len (b + 1) n) =
    same_answers f g n (a + 1) (b + 1) (λ k. ap f (omega arith) ∙ h (1 + k) ∙ ap g (omega arith)) in
    ap (λ z. z ∷ map f (range_with_len (a + 1) n)) first ∙ ap (λ zs. g b ∷ zs) rest

pub coded_cells : (t : Table) (f : Coded) (o n : ℕ) → map (λ k. Byte (coded_byte f k)) (range_with_len o n) ≡ described_cells t n (coded_description o f)
coded_cells t (Fill c) o n = same_answers (λ k. Byte c) (λ k. Byte c) n o 0 (λ k. refl)
coded_cells t (Ramp c) o n =
    same_answers (λ k. Byte ((c + k) % 256)) (λ k. Byte (((c + o) % 256 + k) % 256)) n o 0
    (λ k. ap Byte (ap (λ (m : ℕ). m % 256) (omega arith) ∙ sym (mod-add-mod (c + o) 256 (0 + k))))
coded_cells t (Cycle p) o n =
    same_answers (λ k. Byte (slice_index p (k % length p))) (λ k. Byte (slice_index p (k % length p))) n o (o % length p)
    (λ k. ap (λ m. Byte (slice_index p m)) (sym (mod-add-mod o (length p) k)))

some_same : (d e : Description) → Some d ≡ Some e → d ≡ e
some_same d e is = cc

-- a leaf span denotes what its description does
pub leaf_cells : (t : Table) → IsSound t → (f : Coded) (k o n : ℕ) → k < length t.nodes → o + n ≤ len_at t k → (v : NodeView) → view_at t k ≡ v → AnswersCoded t k f → (d : Description) → leaf_description f o v ≡ Some d
    → take n (drop o (cells t k)) ≡ described_cells t n d
leaf_cells t s f k o n there inside (Lit a) is answers d e =
    let same : Pooled (a + o) ≡ d = cc in
    rw (← same, cells_at t s k there (Lit a) is)
    (span-map Byte n o (slice_range t.pool a (a + len_at t k)) ∙ ap (map Byte) (span_within n o (a + len_at t k - a) a t.pool (omega arith) ∙ ap (λ (j : ℕ). take n (drop j t.pool)) (omega arith)))
leaf_cells t s f k o n there inside (Src r a) is answers d e =
    let same : Sourced r (a + o) ≡ d = cc in
    rw (← same, cells_at t s k there (Src r a) is)
    (span-map (Place r) n o (range_with_len a (len_at t k)) ∙ ap (map (Place r)) (span-range_with_len n o a (len_at t k) inside))
leaf_cells t s f k o n there inside Fun is answers d e =
    let same : coded_description o f ≡ d = some_same (coded_description o f) d e in
    subst (λ z. take n (drop o (cells t k)) ≡ described_cells t n z) same
    (ap (λ cs. take n (drop o cs)) (cells_at t s k there Fun is)
    ∙ span-map (λ j. Byte (t.answer k j)) n o (range_with_len 0 (len_at t k))
    ∙ ap (map (λ j. Byte (t.answer k j))) (span-range_with_len n o 0 (len_at t k) inside ∙ ap (λ (j : ℕ). range_with_len j n) (omega arith))
    ∙ same_answers (λ j. Byte (t.answer k j)) (λ j. Byte (coded_byte f j)) n o o (λ j. ap Byte (answers (o + j)))
    ∙ coded_cells t f o n)
leaf_cells t s f k o n there inside (Cat l r) is answers d e = absurd cc
leaf_cells t s f k o n there inside (Sub b i) is answers d e = absurd cc

coded_room : (t : Table) (f : Coded) (o n : ℕ) → o + n < 2 ^ 64 → HasRoom t n (coded_description o f)
coded_room t (Fill c) o n small = omega arith
coded_room t (Ramp c) o n small = omega arith
coded_room t (Cycle p) o n small = omega (arith, mod-le o (length p))

leaf_room : (t : Table) → IsSound t → (f : Coded) (k o n : ℕ) → k < length t.nodes → o + n ≤ len_at t k → (v : NodeView) → view_at t k ≡ v → (d : Description) → leaf_description f o v ≡ Some d → HasRoom t n d
leaf_room t s f k o n there inside (Lit a) is d e =
    let same : Pooled (a + o) ≡ d = cc in
    let span = rw is at (s.nodes k there).span in
    rw (← same) (omega (arith, span))
leaf_room t s f k o n there inside (Src r a) is d e =
    let same : Sourced r (a + o) ≡ d = cc in
    let span = rw is at (s.nodes k there).span in
    rw (← same) (omega (arith, span, s.sources r))
leaf_room t s f k o n there inside Fun is d e =
    subst (HasRoom t n) (some_same (coded_description o f) d e) (coded_room t f o n (omega (arith, (s.nodes k there).not_long)))
leaf_room t s f k o n there inside (Cat l r) is d e = absurd cc
leaf_room t s f k o n there inside (Sub b i) is d e = absurd cc

pub describes : (t : Table) → IsSound t → (f : Coded) (k o : ℕ) → k < length t.nodes → (v : NodeView) → view_at t k ≡ v → AnswersCoded t k f → (d : Description) → leaf_description f o v ≡ Some d → Describes t k o d
describes t s f k o there v is answers d e = record {
  cells = λ n inside. leaf_cells t s f k o n there inside v is answers d e;
  room = λ n inside. leaf_room t s f k o n there inside v is d e;
}
