-- Laws of the count of pieces.
use Rattle.std.proofs.Common.{◌≡◌, ℕ, zero, suc, ◌+◌, ◌-◌, ◌<◌, ◌≤◌, min, eqb, leb, Bool, true, false, ◌&&◌, if◌then◌else◌, length, Option, Some, None, refl, ap, ◌∙◌, arith}
use Rattle.std.proofs.lemmas.Bool.{cond_both, eqb-true, leb-true, and_parts}
use Rattle.rope_node.specs.declared.node.NodeId.{NodeId}
use Rattle.rope_node.specs.declared.node.NodeView.{NodeView}
use Rattle.rope_node.specs.declared.node.NodeView.TheVariants.{Lit, Src, Fun, Cat, Sub}
use Rattle.rope_node.specs.Balance.{fibonacci}
use Rattle.rope_node.specs.Table.{Node, Table, view_at, len_at, depth_at, HasGoodReferences, IsLeaf, IsSound}
use Rattle.rope_node.specs.Denotes.{IsRope}
use Rattle.rope_node.specs.Extends.{Extends}
use Rattle.rope_node.proofs.Extensions.{len_kept}
use Rattle.rebalance.specs.declared.pieces.TheConstants.{MOST_PIECES}
use Rattle.rebalance.specs.declared.pieces.Tally.{Tally}
use Rattle.rebalance.specs.declared.pieces.Tally.TheVariants.{So, Few, Many}
use Rattle.rebalance.specs.Pieces.{is_kept, node_pieces, pieces_in, piece_count, all_pieces, Tallies}

-- the count at a node depends on its children's alone
node_pieces_alike : (t : Table) (f g : ℕ → ℕ → ℕ → ℕ) (id i n : ℕ) (v : NodeView) → HasGoodReferences t id v → ((c j k : ℕ) → c < id → f c j k ≡ g c j k) → node_pieces t f i n v ≡ node_pieces t g i n v
node_pieces_alike t f g id i n (Lit a) s h = refl
node_pieces_alike t f g id i n (Src s' a) s h = refl
node_pieces_alike t f g id i n Fun s h = refl
node_pieces_alike t f g id i n (Cat l r) s h = rw (h l.0 i (min n (len_at t l.0 - i)) s.0, h r.0 (i - len_at t l.0) (n - (len_at t l.0 - i)) s.1) refl
node_pieces_alike t f g id i n (Sub b start) s h = h b.0 (start + i) n s

steps_enough : (keep : Bool) (t : Table) → IsSound t → (m k id i n : ℕ) → id < length t.nodes → id < m → id < k → pieces_in keep t m id i n ≡ pieces_in keep t k id i n
steps_enough keep t s zero k id i n inside a b = absurd (omega arith)
steps_enough keep t s (suc m) zero id i n inside a b = absurd (omega arith)
steps_enough keep t s (suc m) (suc k) id i zero inside a b = refl
steps_enough keep t s (suc m) (suc k) id i (suc n) inside a b =
    ap (λ (c : ℕ). if is_kept keep t id i (suc n) then 1 else c)
    (node_pieces_alike t (pieces_in keep t m) (pieces_in keep t k) id i (suc n) (view_at t id) (s.nodes id inside).references
    (λ c j o lt. steps_enough keep t s m k c j o (omega arith) (omega arith) (omega arith)))

-- one step of the count, where the node is not kept and it is known what it is
pub pieces_step : (keep : Bool) (t : Table) → IsSound t → (id i n : ℕ) → id < length t.nodes → 1 ≤ n → (v : NodeView) → view_at t id ≡ v → is_kept keep t id i n ≡ false → piece_count keep t id i n ≡ node_pieces t (piece_count keep t) i n v
pieces_step keep t s id i zero inside some v is free = absurd (omega arith)
pieces_step keep t s id i (suc n) inside some v is free =
    ap (λ (b : Bool). if b then 1 else node_pieces t (pieces_in keep t id) i (suc n) (view_at t id)) free
    ∙ node_pieces_alike t (pieces_in keep t id) (piece_count keep t) id i (suc n) (view_at t id) (s.nodes id inside).references
    (λ c j o lt. steps_enough keep t s id (suc c) c j o (omega arith) lt (omega arith))
    ∙ ap (node_pieces t (piece_count keep t) i (suc n)) is

-- what is kept is one piece, and so is a span of a leaf
pub one_kept : (keep : Bool) (t : Table) (id i n : ℕ) → 1 ≤ n → is_kept keep t id i n ≡ true → piece_count keep t id i n ≡ 1
one_kept keep t id i zero some is = absurd (omega arith)
one_kept keep t id i (suc n) some is = ap (λ (b : Bool). if b then 1 else node_pieces t (pieces_in keep t id) i (suc n) (view_at t id)) is

leaf_alone : (t : Table) (f : ℕ → ℕ → ℕ → ℕ) (i n : ℕ) (v : NodeView) → IsLeaf v → node_pieces t f i n v ≡ 1
leaf_alone t f i n (Lit a) leaf = refl
leaf_alone t f i n (Src s a) leaf = refl
leaf_alone t f i n Fun leaf = refl
leaf_alone t f i n (Cat l r) leaf = absurd leaf
leaf_alone t f i n (Sub b start) leaf = absurd leaf

pub one_leaf : (keep : Bool) (t : Table) (id i n : ℕ) → 1 ≤ n → IsLeaf (view_at t id) → piece_count keep t id i n ≡ 1
one_leaf keep t id i zero some leaf = absurd (omega arith)
one_leaf keep t id i (suc n) some leaf =
    cond_both (is_kept keep t id i (suc n)) 1 (node_pieces t (pieces_in keep t id) i (suc n) (view_at t id)) (λ (c : ℕ). c ≡ 1) (λ e. refl) (λ e. leaf_alone t (pieces_in keep t id) i (suc n) (view_at t id) leaf)

-- the step of a concatenation, whether there are bytes or not
pub cat_pieces : (keep : Bool) (t : Table) → IsSound t → (id i n : ℕ) → id < length t.nodes → (l r : NodeId) → view_at t id ≡ Cat l r → is_kept keep t id i n ≡ false
    → piece_count keep t id i n ≡ piece_count keep t l.0 i (min n (len_at t l.0 - i)) + piece_count keep t r.0 (i - len_at t l.0) (n - (len_at t l.0 - i))
cat_pieces keep t s id i zero inside l r e free =
    let none : min 0 (len_at t l.0 - i) ≡ 0 = omega arith in
    let less : 0 - (len_at t l.0 - i) ≡ 0 = omega arith in
    rw (none, less) refl
cat_pieces keep t s id i (suc n) inside l r e free = pieces_step keep t s id i (suc n) inside (omega arith) (Cat l r) e free

pub sub_pieces : (keep : Bool) (t : Table) → IsSound t → (id i n : ℕ) → id < length t.nodes → (b : NodeId) (start : ℕ) → view_at t id ≡ Sub b start → is_kept keep t id i n ≡ false → piece_count keep t id i n ≡ piece_count keep t b.0 (start + i) n
sub_pieces keep t s id i zero inside b start e free = refl
sub_pieces keep t s id i (suc n) inside b start e free = pieces_step keep t s id i (suc n) inside (omega arith) (Sub b start) e free

-- ---- at most a piece a byte

node_few : (t : Table) (f : ℕ → ℕ → ℕ → ℕ) (i n : ℕ) (v : NodeView) → 1 ≤ n → ((c j k : ℕ) → f c j k ≤ k) → node_pieces t f i n v ≤ n
node_few t f i n (Lit a) some few = some
node_few t f i n (Src s a) some few = some
node_few t f i n Fun some few = some
node_few t f i n (Cat l r) some few = omega (arith, few l.0 i (min n (len_at t l.0 - i)), few r.0 (i - len_at t l.0) (n - (len_at t l.0 - i)))
node_few t f i n (Sub b start) some few = few b.0 (start + i) n

few_in : (keep : Bool) (t : Table) (m id i n : ℕ) → pieces_in keep t m id i n ≤ n
few_in keep t zero id i n = omega arith
few_in keep t (suc m) id i zero = omega arith
few_in keep t (suc m) id i (suc n) =
    cond_both (is_kept keep t id i (suc n)) 1 (node_pieces t (pieces_in keep t m) i (suc n) (view_at t id)) (λ (c : ℕ). c ≤ suc n) (λ e. omega arith)
    (λ e. node_few t (pieces_in keep t m) i (suc n) (view_at t id) (omega arith) (λ c j k. few_in keep t m c j k))

pub few_pieces : (keep : Bool) (t : Table) (id i n : ℕ) → piece_count keep t id i n ≤ n
few_pieces keep t id i n = few_in keep t (suc id) id i n

-- ---- what is kept

pub kept_is : (keep : Bool) (t : Table) (id i n : ℕ) → is_kept keep t id i n ≡ true → (i ≡ 0) × (n ≡ len_at t id) × (fibonacci (depth_at t id + 3) ≤ n)
kept_is keep t id i n is =
    let one = and_parts keep _ is in
    let two = and_parts (eqb i 0) _ one.1 in
    let three = and_parts (eqb n (len_at t id)) _ two.1 in
    (eqb-true i 0 two.0, eqb-true n (len_at t id) three.0, leb-true (fibonacci (depth_at t id + 3)) n three.1)

-- ---- a table that goes on

node_pieces_kept : (old new : Table) → Extends old new → (f g : ℕ → ℕ → ℕ → ℕ) (id i n : ℕ) (v : NodeView) → id < length old.nodes → HasGoodReferences old id v → ((c j k : ℕ) → c < id → f c j k ≡ g c j k) → node_pieces new f i n v ≡ node_pieces old g i n v
node_pieces_kept old new x f g id i n (Lit a) inside s h = refl
node_pieces_kept old new x f g id i n (Src s' a) inside s h = refl
node_pieces_kept old new x f g id i n Fun inside s h = refl
node_pieces_kept old new x f g id i n (Cat l r) inside s h =
    rw (len_kept old new x l.0 (omega (arith, s.0, inside)), h l.0 i (min n (len_at old l.0 - i)) s.0, h r.0 (i - len_at old l.0) (n - (len_at old l.0 - i)) s.1) refl
node_pieces_kept old new x f g id i n (Sub b start) inside s h = h b.0 (start + i) n s

pieces_in_kept : (keep : Bool) (old new : Table) → IsSound old → Extends old new → (m id i n : ℕ) → id < length old.nodes → id < m → pieces_in keep new m id i n ≡ pieces_in keep old m id i n
pieces_in_kept keep old new s x zero id i n inside below = absurd (omega arith)
pieces_in_kept keep old new s x (suc m) id i zero inside below = refl
pieces_in_kept keep old new s x (suc m) id i (suc n) inside below =
    ap (λ (node : Node). if (keep && (eqb i 0 && (eqb (suc n) node.len && leb (fibonacci (node.depth + 3)) (suc n)))) then 1 else node_pieces new (pieces_in keep new m) i (suc n) node.view) (x.nodes id inside)
    ∙ ap (λ (c : ℕ). if is_kept keep old id i (suc n) then 1 else c)
    (node_pieces_kept old new x (pieces_in keep new m) (pieces_in keep old m) id i (suc n) (view_at old id) inside (s.nodes id inside).references
    (λ c j k lt. pieces_in_kept keep old new s x m c j k (omega arith) (omega arith)))

-- an earlier node keeps its count, and so does an earlier rope
pub pieces_kept : (keep : Bool) (old new : Table) → IsSound old → Extends old new → (id i n : ℕ) → id < length old.nodes → piece_count keep new id i n ≡ piece_count keep old id i n
pieces_kept keep old new s x id i n there = pieces_in_kept keep old new s x (suc id) id i n there (omega arith)

pub all_pieces_kept : (keep : Bool) (old new : Table) → IsSound old → Extends old new → (rope : Option NodeId) → IsRope old rope → all_pieces keep new rope ≡ all_pieces keep old rope
all_pieces_kept keep old new s x None there = refl
all_pieces_kept keep old new s x (Some id) there = ap (λ (n : ℕ). piece_count keep new id.0 0 n) (len_kept old new x id.0 there) ∙ pieces_kept keep old new s x id.0 0 (len_at old id.0) there

-- what is told of p pieces, other than their number, is told of all, where those behind them are as many as n bytes at most
pub told_of_all : (all p q n count behind before : ℕ) (told : Tally) → ((more : ℕ) → ¬ (told ≡ So more)) → all ≡ p + q → q ≤ n → (before ≤ MOST_PIECES → behind + n ≤ before) → Tallies p count before told → Tallies all count behind told
told_of_all all p q n count behind before (So more) other whole few sum told = absurd (other more refl)
told_of_all all p q n count behind before Few other whole few sum told = omega (arith, whole, few, told, sum (omega (arith, told)))
told_of_all all p q n count behind before Many other whole few sum told = omega (arith, whole, told)
