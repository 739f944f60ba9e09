-- How much a call of the store adds, and how deep its nodes are.
use Rattle.std.proofs.Common.{◌≡◌, ℕ, zero, suc, ◌+◌, ◌-◌, ◌<◌, ◌≤◌, min, Bool, true, false, if◌then◌else◌, nat_le, nat_eq, List, [], ◌∷◌, ◌++◌, length, take, drop, get_or, inl, inr, Option, Some, None, refl, sym, ap, subst, arith, length-append}
use Rattle.std.proofs.lemmas.Bool.{cases_lt, cases_eq, leb-true, cond_both}
use Rattle.std.proofs.Math.Seq.{take-length, take-append_seam}
use Rattle.std.proofs.lemmas.Option.{same_Some}
use Rattle.rope_store.specs.declared.endings.TheConstants.{MOST_MERGED}
use Rattle.leaf_buffer.specs.Contents.{Contents}
use Rattle.rope_node.specs.declared.node.NodeId.{NodeId}
use Rattle.rope_node.specs.declared.node.NodeView.{NodeView}
use Rattle.rope_node.specs.declared.node.NodeView.TheVariants.{Lit, Src, Fun, Cat, Sub}
use Rattle.rope_node.specs.Table.{Table, view_at, len_at, depth_at, depth_of, IsLiteral, IsSound, HasTrueRecords}
use Rattle.rope_node.specs.Denotes.{rope_depth, IsRope}
use Rattle.rope_store.specs.declared.endings.Ending.{Ending}
use Rattle.rope_store.specs.Additions.{Addition, nothing, inner_part, node_part, part_added}
use Rattle.rope_store.specs.Appending.{literal_place, grown, merged_after, copied, IsAppendTo, IsAppend}
use Rattle.rope_store.specs.Joining.{ending_of, short_ending, ending_for, piece, merged, nodes_joined, joined, IsShortEnding}
use Rattle.rope_store.specs.Refusals.{deepest, IsTooDeep}
use Rattle.rope_store.proofs.LastLiterals.{ending_found, piece_length, short_found}

-- a call adds at most so many nodes and bytes
pub record IsFew {F : Type 0} (a : Addition F) (nodes bytes : ℕ) : Type 0 where
  pub records : length a.records ≤ nodes
  pub bytes_added : length a.bytes ≤ bytes

pub merged_few : {F : Type 0} (t : Table) (before : Option NodeId) (bytes : List ℕ) (n : ℕ) → length bytes ≤ n → IsFew {F = F} (merged t before bytes) 2 n
merged_few t None bytes n le = record { records = omega arith; bytes_added = le }
merged_few t (Some l) bytes n le = record { records = omega arith; bytes_added = le }

pub merged_shallow : (F : Type 0) (t : Table) (before : Option NodeId) (bytes : List ℕ) → 1 + rope_depth t before ≤ 64 → ¬ IsTooDeep {F = F} (merged t before bytes)
merged_shallow F t None bytes le deep = omega (arith, deep)
merged_shallow F t (Some l) bytes le deep = omega (arith, deep, le)

pick : (b : Bool) (e k : Ending) → (if b then Some e else None) ≡ Some k → (b ≡ true) × (e ≡ k)
pick true e k is = (refl, same_Some e k is)
pick false e k is = absurd cc

short_some : (t : Table) (n : ℕ) (o : Option Ending) (e : Ending) → short_ending t n o ≡ Some e → (o ≡ Some e) × (len_at t e.literal.0 + n ≤ MOST_MERGED)
short_some t n None e is = absurd cc
short_some t n (Some k) e is =
    let p = pick (nat_le (len_at t k.literal.0 + n) MOST_MERGED) k e is in
    let le = leb-true (len_at t k.literal.0 + n) MOST_MERGED p.0 in
    (ap (λ (x : Ending). Some x) p.1, rw p.1 at le)

-- the ending that a call takes is short and shallow
pub ending_short : (t : Table) → IsSound t → HasTrueRecords t → (x : NodeId) (n : ℕ) → x.0 < length t.nodes → (e : Ending) → short_ending t n (ending_of t x) ≡ Some e → IsShortEnding t x n e
ending_short t s h x n there e is =
    let p = short_some t n (ending_of t x) e is in
    short_found t s h x n there e p.0 p.1

ending_taken : (t : Table) → IsSound t → HasTrueRecords t → (l r : NodeId) (v : NodeView) → l.0 < length t.nodes → view_at t r.0 ≡ v → (e : Ending) → ending_for t l r v ≡ Some e → IsShortEnding t l (len_at t r.0) e × IsLiteral (view_at t r.0)
ending_taken t s h l r (Lit a) there is e found = (ending_short t s h l (len_at t r.0) there e found, subst IsLiteral (sym is) tt)
ending_taken t s h l r (Src s' a) there is e found = absurd cc
ending_taken t s h l r Fun there is e found = absurd cc
ending_taken t s h l r (Cat x y) there is e found = absurd cc
ending_taken t s h l r (Sub b i) there is e found = absurd cc

nodes_few : {F : Type 0} (t : Table) → IsSound t → HasTrueRecords t → (l r : NodeId) → r.0 < length t.nodes → (o : Option Ending) → ((e : Ending) → o ≡ Some e → IsShortEnding t l (len_at t r.0) e × IsLiteral (view_at t r.0)) → IsFew {F = F} (nodes_joined t l r o) 2 31
nodes_few t s h l r there None taken = record { records = omega arith; bytes_added = omega arith }
nodes_few t s h l r there (Some e) taken =
    let p = taken e refl in
    let first = piece_length t s h e.literal p.0.there p.0.is_literal in
    let second = piece_length t s h r there p.1 in
    let both = length-append (piece t e.literal) (piece t r) in
    merged_few t e.before (piece t e.literal ++ piece t r) 31 (omega (arith, both, first, second, p.0.short))

nodes_shallow : (F : Type 0) (t : Table) (l r : NodeId) (o : Option Ending) → ((e : Ending) → o ≡ Some e → IsShortEnding t l (len_at t r.0) e × IsLiteral (view_at t r.0)) → depth_at t l.0 ≤ 63 → depth_at t r.0 ≤ 63 → ¬ IsTooDeep {F = F} (nodes_joined t l r o)
nodes_shallow F t l r None taken left right deep = omega (arith, deep, left, right)
nodes_shallow F t l r (Some e) taken left right deep = merged_shallow F t e.before (piece t e.literal ++ piece t r) (taken e refl).0.shallow deep

pub joined_few : {F : Type 0} (t : Table) → IsSound t → HasTrueRecords t → (l r : Option NodeId) → IsRope t l → IsRope t r → IsFew {F = F} (joined t l r) 2 31
joined_few t s h None r left right = record { records = omega arith; bytes_added = omega arith }
joined_few t s h (Some l) None left right = record { records = omega arith; bytes_added = omega arith }
joined_few t s h (Some l) (Some r) left right = nodes_few t s h l r right (ending_for t l r (view_at t r.0)) (ending_taken t s h l r (view_at t r.0) left refl)

pub joined_shallow : (F : Type 0) (t : Table) → IsSound t → HasTrueRecords t → (l r : Option NodeId) → IsRope t l → IsRope t r → rope_depth t l ≤ 63 → rope_depth t r ≤ 63 → ¬ IsTooDeep {F = F} (joined t l r)
joined_shallow F t s h None r left right dl dr deep = omega (arith, deep)
joined_shallow F t s h (Some l) None left right dl dr deep = omega (arith, deep)
joined_shallow F t s h (Some l) (Some r) left right dl dr deep = nodes_shallow F t l r (ending_for t l r (view_at t r.0)) (ending_taken t s h l r (view_at t r.0) left refl) dl dr deep

-- ---- parts

inner_few : {F : Type 0} (t : Table) (x : NodeId) (i n : ℕ) (v : NodeView) → IsFew {F = F} (inner_part t x i n v) 1 0
inner_few t x i n (Lit a) = record { records = omega arith; bytes_added = omega arith }
inner_few t x i n (Src s a) = record { records = omega arith; bytes_added = omega arith }
inner_few t x i n Fun = record { records = omega arith; bytes_added = omega arith }
inner_few t x i n (Cat l r) = record { records = omega arith; bytes_added = omega arith }
inner_few t x i n (Sub b j) = record { records = omega arith; bytes_added = omega arith }

inner_shallow : (F : Type 0) (t : Table) (x : NodeId) (i n : ℕ) (v : NodeView) → depth_of t v ≡ depth_at t x.0 → depth_at t x.0 ≤ 63 → ¬ IsTooDeep {F = F} (inner_part t x i n v)
inner_shallow F t x i n (Lit a) d le deep = omega (arith, deep)
inner_shallow F t x i n (Src s a) d le deep = omega (arith, deep)
inner_shallow F t x i n Fun d le deep = omega (arith, deep, le)
inner_shallow F t x i n (Cat l r) d le deep = omega (arith, deep, le)
inner_shallow F t x i n (Sub b j) d le deep = omega (arith, deep, le, d)

node_part_few : {F : Type 0} (t : Table) (x : NodeId) (i n : ℕ) → IsFew {F = F} (node_part t x i n) 1 0
node_part_few t x i zero = record { records = omega arith; bytes_added = omega arith }
node_part_few {F = F} t x i (suc n) =
    cond_both (nat_eq (suc n) (len_at t x.0)) (nothing (Some x)) (inner_part t x i (suc n) (view_at t x.0)) (λ (a : Addition F). IsFew {F = F} a 1 0)
    (λ e. record { records = omega arith; bytes_added = omega arith }) (λ e. inner_few t x i (suc n) (view_at t x.0))

node_part_shallow : (F : Type 0) (t : Table) → HasTrueRecords t → (x : NodeId) (i n : ℕ) → x.0 < length t.nodes → depth_at t x.0 ≤ 63 → ¬ IsTooDeep {F = F} (node_part t x i n)
node_part_shallow F t h x i zero there le deep = omega (arith, deep)
node_part_shallow F t h x i (suc n) there le deep =
    cond_both (nat_eq (suc n) (len_at t x.0)) (nothing (Some x)) (inner_part t x i (suc n) (view_at t x.0)) (λ (a : Addition F). ¬ IsTooDeep {F = F} a)
    (λ e deeper. omega (arith, deeper)) (λ e. inner_shallow F t x i (suc n) (view_at t x.0) (sym (h.nodes x.0 there).depth) le) deep

pub part_few : {F : Type 0} (t : Table) (x : Option NodeId) (i n : ℕ) → IsFew {F = F} (part_added t x i n) 1 0
part_few t None i n = record { records = omega arith; bytes_added = omega arith }
part_few t (Some x) i n = node_part_few t x i (min n (len_at t x.0 - i))

pub part_shallow : (F : Type 0) (t : Table) → HasTrueRecords t → (x : Option NodeId) (i n : ℕ) → IsRope t x → rope_depth t x ≤ 63 → ¬ IsTooDeep {F = F} (part_added t x i n)
part_shallow F t h None i n there le deep = omega (arith, deep)
part_shallow F t h (Some x) i n there le deep = node_part_shallow F t h x i (min n (len_at t x.0 - i)) there le deep

-- ---- bytes put behind a rope

-- what an append adds: three nodes and 31 bytes beside its own at most, its own first, and no deep node behind a shallow rope
pub record IsSized {F : Type 0} (t : Table) (x : Option NodeId) (bytes : List ℕ) (a : Addition F) : Type 0 where
  pub few : IsFew a 3 (length bytes + 31)
  pub first : take (length bytes) a.bytes ≡ bytes
  pub shallow : rope_depth t x ≤ 63 → deepest a.records ≤ 64

-- lists of numbers that cannot differ are one
same_list : (xs ys : List ℕ) → ¬ (¬ (xs ≡ ys)) → xs ≡ ys
same_list [] [] h = refl
same_list [] (y ∷ ys) h = absurd (h (λ e. cc))
same_list (x ∷ xs) [] h = absurd (h (λ e. cc))
same_list (x ∷ xs) (y ∷ ys) h =
    elim (cases_eq x y) [
      | inl same ↦ let rest = same_list xs ys (λ no. h (λ e. no (ap (drop 1) e))) in rw (same, rest) refl
      | inr other ↦ absurd (h (λ e. other (ap (λ (zs : List ℕ). get_or zs 0 0) e)))
    ]

pub at_most : (m n : ℕ) → ¬ (¬ (m ≤ n)) → m ≤ n
at_most m n h =
    elim (cases_lt n m) [
      | inl lt ↦ absurd (h (λ le. omega (arith, lt, le)))
      | inr le ↦ le
    ]

sized_surely : {F : Type 0} (t : Table) (x : Option NodeId) (bytes : List ℕ) (a : Addition F) → ¬ (¬ (IsSized t x bytes a)) → IsSized t x bytes a
sized_surely t x bytes a h = record {
  few = record { records = at_most _ _ (λ no. h (λ s. no s.few.records)); bytes_added = at_most _ _ (λ no. h (λ s. no s.few.bytes_added)) };
  first = same_list _ _ (λ no. h (λ s. no s.first));
  shallow = λ d. at_most _ _ (λ no. h (λ s. no (s.shallow d)));
}

sized_merged : {F : Type 0} (t : Table) (before : Option NodeId) (bytes : List ℕ) → IsSized {F = F} t before bytes (merged t before bytes)
sized_merged t None bytes = record { few = record { records = omega arith; bytes_added = omega arith }; first = take-length bytes; shallow = λ d. omega arith }
sized_merged t (Some l) bytes = record { few = record { records = omega arith; bytes_added = omega arith }; first = take-length bytes; shallow = λ d. omega (arith, d) }

sized_grown : {F : Type 0} (t : Table) (x : Option NodeId) (before : Option NodeId) (a n : ℕ) (bytes : List ℕ) → 1 + rope_depth t before ≤ 64 → IsSized {F = F} t x bytes (grown t before a n bytes)
sized_grown t x None a n bytes le = record { few = record { records = omega arith; bytes_added = omega arith }; first = take-length bytes; shallow = λ d. omega arith }
sized_grown t x (Some l) a n bytes le = record { few = record { records = omega arith; bytes_added = omega arith }; first = take-length bytes; shallow = λ d. omega (arith, le) }

sized_after : {F : Type 0} (t : Table) (x : Option NodeId) (before : Option NodeId) (bytes all : List ℕ) → length all ≤ 31 → 1 + rope_depth t before ≤ 64 → IsSized {F = F} t x bytes (merged_after t before bytes all)
sized_after t x None bytes all few le =
    let both = length-append bytes all in
    record { few = record { records = omega arith; bytes_added = omega (arith, both, few) }; first = take-append_seam bytes all; shallow = λ d. omega arith }
sized_after t x (Some l) bytes all few le =
    let both = length-append bytes all in
    record { few = record { records = omega arith; bytes_added = omega (arith, both, few) }; first = take-append_seam bytes all; shallow = λ d. omega (arith, le) }

sized_copied : {F : Type 0} (t : Table) → IsSound t → HasTrueRecords t → (x : NodeId) (bytes : List ℕ) (o : Option Ending) → ((e : Ending) → o ≡ Some e → IsShortEnding t x (length bytes) e) → IsSized {F = F} t (Some x) bytes (copied t x bytes o)
sized_copied t s h x bytes None taken = sized_merged t (Some x) bytes
sized_copied t s h x bytes (Some e) taken =
    let p = taken e refl in
    let many = piece_length t s h e.literal p.there p.is_literal in
    let both = length-append (piece t e.literal) bytes in
    sized_after t (Some x) e.before bytes (piece t e.literal ++ bytes) (omega (arith, both, many, p.short)) p.shallow

sized_node : {F : Type 0} (pool : Contents) (t : Table) → IsSound t → HasTrueRecords t → (x : NodeId) → x.0 < length t.nodes → (bytes : List ℕ) (a : Addition F) → IsAppendTo pool t x bytes a → IsSized t (Some x) bytes a
sized_node {F = F} pool t s h x there bytes a is =
    sized_surely t (Some x) bytes a (λ no.
    no (subst (λ (k : Addition F). IsSized t (Some x) bytes k) (sym (is.copied (λ e found can.
    no (subst (λ (k : Addition F). IsSized t (Some x) bytes k) (sym (is.in_place e found can))
    (sized_grown t (Some x) e.before (literal_place (view_at t e.literal.0)) (len_at t e.literal.0) bytes (ending_found t s h x there e found).shallow)))))
    (sized_copied t s h x bytes (short_ending t (length bytes) (ending_of t x)) (ending_short t s h x (length bytes) there))))

pub sized_append : {F : Type 0} (pool : Contents) (t : Table) → IsSound t → HasTrueRecords t → (x : Option NodeId) → IsRope t x → (bytes : List ℕ) (a : Addition F) → IsAppend pool t x bytes a → IsSized t x bytes a
sized_append {F = F} pool t s h x there [] a is =
    subst (λ (k : Addition F). IsSized t x [] k) (sym is) (record { few = record { records = omega arith; bytes_added = omega arith }; first = refl; shallow = λ d. omega arith })
sized_append {F = F} pool t s h None there (b ∷ bs) a is = subst (λ (k : Addition F). IsSized t None (b ∷ bs) k) (sym is) (sized_merged t None (b ∷ bs))
sized_append pool t s h (Some x) there (b ∷ bs) a is = sized_node pool t s h x there (b ∷ bs) a is
