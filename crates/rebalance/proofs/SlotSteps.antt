-- What stays true of slots as ropes are joined and put into them.
use Rattle.std.proofs.Common.{◌≡◌, ℕ, zero, suc, ◌+◌, ◌^◌, ◌<◌, ◌≤◌, ◌⊎◌, inl, inr, max, List, ◌++◌, length, get_or, set, Option, Some, None, true, false, refl, sym, ap, ◌∙◌, arith, length-append, append_assoc}
use Rattle.std.proofs.lemmas.Bool.{cases_eq}
use Rattle.std.proofs.lemmas.List.{append-nil, length-set, set-get_or, get_or-set_same, get_or-set_other}
use Rattle.rope_node.specs.declared.node.NodeId.{NodeId}
use Rattle.rope_node.specs.Balance.{fibonacci}
use Rattle.rope_node.specs.Table.{Table, len_at, depth_at, IsSound, HasTrueRecords}
use Rattle.rope_node.specs.Denotes.{Cell, rope_cells, rope_len, rope_depth, IsRope}
use Rattle.rope_node.specs.Extends.{Extends}
use Rattle.std.specs.Option.{is_some}
use Rattle.rope_node.proofs.Extensions.{len_kept, depth_kept}
use Rattle.node_table.specs.Held.{Held, table_of}
use Rattle.rebalance.specs.Slots.{ropes_in, slots_cells, AreSlots, AreEmptyBelow, IsSlot, IsGathered, IsCarried, IsShallowPiece, IsJoin, IsSpread}
use Rattle.rebalance.proofs.Fibonacci.{fibonacci_sum, fibonacci_up, fibonacci_below, first_ones, sixtieth, over_both}
use Rattle.rebalance.proofs.SlotLists.{full-set, cells-set, cells_stay, slots_stay, slot_rope}
use Rattle.rope_node.proofs.Ropes.{rope_length, rope_short}
use Rattle.rebalance.specs.declared.slots.TheConstants.{SLOTS}

set_each : (t : Table) (xs : List (Option NodeId)) (m : ℕ) (y : Option NodeId) → AreSlots t xs → m < SLOTS → IsSlot t m y → AreSlots t (set xs m y)
set_each t xs m y are lt good = record {
  size = length-set xs m y ∙ are.size;
  each = λ i. elim (cases_eq i m) [
    | inl same ↦ rw (same, get_or-set_same xs m y None (omega (arith, are.size))) good
    | inr other ↦ rw (get_or-set_other xs m i y None other) (are.each i)
  ];
}

empty_on : (xs : List (Option NodeId)) (m : ℕ) → AreEmptyBelow m xs → m < length xs → AreEmptyBelow (m + 1) (set xs m None)
empty_on xs m empty inside i lt =
    elim (cases_eq i m) [
      | inl same ↦ rw (same, get_or-set_same xs m None None inside) refl
      | inr other ↦ rw (get_or-set_other xs m i None None other) (empty i (omega (arith, other)))
    ]

-- a slot and the rope are no longer than the text
pub both_short : (t : Table) → IsSound t → HasTrueRecords t → (most : ℕ) (text : List Cell) (m : ℕ) (slots : List (Option NodeId)) (rope : Option NodeId) → IsSpread t most text m slots rope → m < SLOTS → length text < 2 ^ 40
    → rope_len t (get_or slots m None) + rope_len t rope < 2 ^ 40
both_short t s h most text m slots rope spread lt short =
    let x = get_or slots m None in
    let inside : m < length slots = omega (arith, spread.are.size) in
    let split = cells-set t slots m x spread.empty inside in
    let here : slots_cells t slots ≡ slots_cells t (set slots m None) ++ rope_cells t x = rw (set-get_or slots m None) at split in
    let all : length (slots_cells t slots) ≡ length (slots_cells t (set slots m None)) + length (rope_cells t x) = ap length here ∙ length-append (slots_cells t (set slots m None)) (rope_cells t x) in
    let whole : length (slots_cells t slots) + length (rope_cells t rope) ≡ length text = sym (length-append (slots_cells t slots) (rope_cells t rope)) ∙ ap length spread.whole in
    let left = rope_length t s h x (slot_rope t m x (spread.are.each m)) in
    let right = rope_length t s h rope spread.is_rope in
    omega (arith, all, whole, left, right)

-- the slot m emptied, and its rope joined with the rope
pub spread_join : {F : Type 0} (meaning : F → ℕ → ℕ) (old new : Held F) → IsSound (table_of meaning old) → Extends (table_of meaning old) (table_of meaning new) → (most : ℕ) (text : List Cell) (m : ℕ) (slots : List (Option NodeId)) (rope joined : Option NodeId)
    → IsSpread (table_of meaning old) most text m slots rope → m < SLOTS → IsJoin meaning old (get_or slots m None) rope joined new → IsSpread (table_of meaning new) most text (m + 1) (set slots m None) joined
spread_join meaning old new s x most text m slots rope joined spread lt join =
    let t = table_of meaning old in
    let t' = table_of meaning new in
    let left = get_or slots m None in
    let rest = set slots m None in
    let inside : m < length slots = omega (arith, spread.are.size) in
    let are : AreSlots t rest = set_each t slots m None spread.are lt tt in
    let split = cells-set t slots m left spread.empty inside in
    let here : slots_cells t slots ≡ slots_cells t rest ++ rope_cells t left = rw (set-get_or slots m None) at split in
    let count = full-set slots m None inside in
    record {
      are = slots_stay t t' x rest are;
      empty = empty_on slots m spread.empty inside;
      is_rope = join.is_rope;
      whole = rw (cells_stay t t' s x rest are, join.text) (sym (append_assoc (slots_cells t rest) (rope_cells t left) (rope_cells t rope)) ∙ ap (λ cs. cs ++ rope_cells t rope) (sym here) ∙ spread.whole);
      nodes = omega (arith, spread.nodes, join.nodes, count);
    }

-- the rope put into the empty slot m
pub spread_put : (t : Table) (most : ℕ) (text : List Cell) (m : ℕ) (slots : List (Option NodeId)) (rope : Option NodeId) → IsSpread t most text m slots rope → m < SLOTS → get_or slots m None ≡ None → IsSlot t m rope → IsSpread t most text 0 (set slots m rope) None
spread_put t most text m slots rope spread lt none good =
    let inside : m < length slots = omega (arith, spread.are.size) in
    let same : set slots m None ≡ slots = rw none at (set-get_or slots m None) in
    let put : slots_cells t (set slots m rope) ≡ slots_cells t slots ++ rope_cells t rope =
    cells-set t slots m rope spread.empty inside ∙ ap (λ xs. slots_cells t xs ++ rope_cells t rope) same in
    let count = full-set slots m rope inside in
    let nothing : ropes_in (get_or slots m None) ≡ 0 = ap ropes_in none in
    record {
      are = set_each t slots m rope spread.are lt good;
      empty = λ i below. absurd (omega (arith, below));
      is_rope = tt;
      whole = append-nil (slots_cells t (set slots m rope)) ∙ put ∙ spread.whole;
      nodes = omega (arith, spread.nodes, count, nothing);
    }

-- ---- depths

-- nothing joined gives nothing
join_none : {F : Type 0} (meaning : F → ℕ → ℕ) (old new : Held F) (id : NodeId) → Extends (table_of meaning old) (table_of meaning new) → IsJoin meaning old None None (Some id) new → ⊥
join_none meaning old new id x join = omega (arith, x.more_nodes, join.nodes)

gather_two : (t : Table) (m : ℕ) (l r : NodeId) → IsSlot t m (Some l) → IsGathered t m (Some r) → (d n : ℕ) → d ≡ 1 + max (depth_at t l.0) (depth_at t r.0) → n ≡ len_at t l.0 + len_at t r.0 → (d + 2 ≤ m + 1) × (fibonacci (d + 1) ≤ n)
gather_two t m l r slot low d n depth len =
    let up = fibonacci_up (d + 1) m (omega (arith, depth, slot.1, low.0)) in
    (omega (arith, depth, slot.1, low.0), omega (arith, up, len, slot.2))

-- one slot more
pub gather_step : {F : Type 0} (meaning : F → ℕ → ℕ) (old new : Held F) → Extends (table_of meaning old) (table_of meaning new) → (m : ℕ) (l r joined : Option NodeId) → IsSlot (table_of meaning old) m l → IsGathered (table_of meaning old) m r → IsJoin meaning old l r joined new
    → IsGathered (table_of meaning new) (m + 1) joined
gather_step meaning old new x m l r None slot low join = tt
gather_step meaning old new x m None None (Some id) slot low join = absurd (join_none meaning old new id x join)
gather_step meaning old new x m None (Some r) (Some id) slot low join =
    let t = table_of meaning old in
    let t' = table_of meaning new in
    let depth : depth_at t' id.0 ≡ depth_at t r.0 = join.depth in
    let len : len_at t' id.0 ≡ len_at t r.0 = omega (arith, join.len) in
    rw (depth, len) (omega (arith, low.0), low.1)
gather_step meaning old new x m (Some l) None (Some id) slot low join =
    let t = table_of meaning old in
    let t' = table_of meaning new in
    let depth : depth_at t' id.0 ≡ depth_at t l.0 = join.depth in
    let len : len_at t' id.0 ≡ len_at t l.0 = omega (arith, join.len) in
    let up = fibonacci_up (depth_at t l.0 + 1) m (omega (arith, slot.1)) in
    rw (depth, len) (omega (arith, slot.1), omega (arith, up, slot.2))
gather_step meaning old new x m (Some l) (Some r) (Some id) slot low join =
    gather_two (table_of meaning old) m l r slot low (depth_at (table_of meaning new) id.0) (len_at (table_of meaning new) id.0) join.depth join.len

-- the numbers at places from 1 on are not 0
pub fibonacci_some : (m : ℕ) → 1 ≤ m → 1 ≤ fibonacci m
fibonacci_some m le = let up = fibonacci_up 1 m le in omega (arith, up, first_ones.0)

-- two of a number are at least the next
fibonacci_twice : (m : ℕ) → 1 ≤ m → fibonacci (m + 1) ≤ fibonacci m + fibonacci m
fibonacci_twice zero le = absurd (omega arith)
fibonacci_twice (suc m) le =
    let sum = fibonacci_sum m (suc m) (suc m + 1) (omega arith) (omega arith) in
    let up = fibonacci_up m (suc m) (omega arith) in
    omega (arith, sum, up)

-- the carried rope behind the one of a full slot, or a place on
pub carry_step : {F : Type 0} (meaning : F → ℕ → ℕ) (old new : Held F) (m : ℕ) (l r joined : Option NodeId) → IsSlot (table_of meaning old) m l → IsCarried (table_of meaning old) m r → (l ≡ None → fibonacci (m + 1) ≤ rope_len (table_of meaning old) r) → IsJoin meaning old l r joined new
    → IsCarried (table_of meaning new) (m + 1) joined
carry_step meaning old new m None r joined slot carried long join =
    let depth : rope_depth (table_of meaning new) joined ≡ rope_depth (table_of meaning old) r = join.depth in
    let len : rope_len (table_of meaning new) joined ≡ rope_len (table_of meaning old) r = omega (arith, join.len) in
    record {
      some = omega (arith, carried.some);
      shallow = omega (arith, carried.shallow, depth);
      long = omega (arith, len, long refl);
      balanced = rw (depth, len) carried.balanced;
    }
carry_step meaning old new m (Some l) None joined slot carried long join =
    let some = fibonacci_some m (omega (arith, carried.some)) in
    absurd (omega (arith, some, carried.long))
carry_step meaning old new m (Some l) (Some r) joined slot carried long join =
    let t = table_of meaning old in
    let dl = depth_at t l.0 in
    let dr = depth_at t r.0 in
    let n = len_at t l.0 + len_at t r.0 in
    let twice = fibonacci_twice m (omega (arith, carried.some)) in
    let left = fibonacci_up (dl + 3) (m + 1) (omega (arith, slot.1)) in
    let right : fibonacci (dr + 3) ≤ n =
    let up = fibonacci_up (dr + 1) m carried.shallow in
    let bal : fibonacci (dr + 2) ≤ len_at t r.0 = carried.balanced in
    let sum = fibonacci_sum (dr + 1) (dr + 2) (dr + 3) (omega arith) (omega arith) in
    omega (arith, sum, up, bal, slot.2) in
    record {
      some = omega (arith, carried.some);
      shallow = omega (arith, join.depth, carried.shallow, slot.1);
      long = omega (arith, join.len, twice, slot.2, carried.long);
      balanced = rw (join.depth, join.len) (over_both dl dr n (omega (arith, left, twice, slot.2, carried.long)) right);
    }

-- a piece behind what the slots below its own join to
pub first_carry : {F : Type 0} (meaning : F → ℕ → ℕ) (old new : Held F) (m : ℕ) (l r joined : Option NodeId) → IsGathered (table_of meaning old) m l → IsShallowPiece (table_of meaning old) r → 2 ≤ m → fibonacci m ≤ rope_len (table_of meaning old) r → rope_len (table_of meaning old) r < fibonacci (m + 1)
    → IsJoin meaning old l r joined new → IsCarried (table_of meaning new) m joined
first_carry meaning old new m None r joined low piece some long short join =
    let t = table_of meaning old in
    let depth : rope_depth (table_of meaning new) joined ≡ rope_depth t r = join.depth in
    let len : rope_len (table_of meaning new) joined ≡ rope_len t r = omega (arith, join.len) in
    let bal : fibonacci (rope_depth t r + 2) ≤ rope_len t r = elim piece.shallow [
      | inl leaf ↦ rw leaf (omega (arith, piece.some, first_ones.1))
      | inr fits ↦ let up = fibonacci_up (rope_depth t r + 2) (rope_depth t r + 3) (omega arith) in omega (arith, up, fits)
    ] in
    record {
      some = some;
      shallow = elim piece.shallow [
        | inl leaf ↦ omega (arith, leaf, some, depth)
        | inr fits ↦ let below = fibonacci_below (rope_depth t r + 3) (m + 1) (omega (arith, fits, short)) in omega (arith, below, depth)
      ];
      long = omega (arith, long, len);
      balanced = rw (depth, len) bal;
    }
first_carry meaning old new m (Some l) None joined low piece some long short join = absurd (omega (arith, piece.some))
first_carry meaning old new m (Some l) (Some r) joined low piece some long short join =
    let t = table_of meaning old in
    let dl = depth_at t l.0 in
    let dr = depth_at t r.0 in
    let n = len_at t l.0 + len_at t r.0 in
    let room : (dr ≡ 0) ⊎ (dr + 3 ≤ m) = elim piece.shallow [
      | inl leaf ↦ inl leaf
      | inr fits ↦ let below = fibonacci_below (dr + 3) (m + 1) (omega (arith, fits, short)) in inr (omega (arith, below))
    ] in
    let left : fibonacci (dl + 3) ≤ n =
    let up = fibonacci_up (dl + 2) m low.0 in
    let sum = fibonacci_sum (dl + 1) (dl + 2) (dl + 3) (omega arith) (omega arith) in
    omega (arith, sum, up, long, low.1) in
    let right : fibonacci (dr + 3) ≤ n = elim room [
      | inl leaf ↦
          let up = fibonacci_up (0 + 3) (dl + 3) (omega arith) in
          rw leaf (omega (arith, up, left))
      | inr fits ↦ let up = fibonacci_up (dr + 3) m fits in omega (arith, up, long)
    ] in
    record {
      some = some;
      shallow = elim room [
        | inl leaf ↦ omega (arith, join.depth, low.0, leaf)
        | inr fits ↦ omega (arith, join.depth, low.0, fits)
      ];
      long = omega (arith, join.len, long);
      balanced = rw (join.depth, join.len) (over_both dl dr n left right);
    }

-- a carried rope has a slot to look at
pub carried_inside : (t : Table) → IsSound t → (m : ℕ) (rope : Option NodeId) → IsRope t rope → IsCarried t m rope → m < SLOTS
carried_inside t s m rope there carried =
    let short = rope_short t s rope there in
    fibonacci_below m 60 (omega (arith, carried.long, short, sixtieth))

-- a carried rope that is shorter than the next slot asks for fits its slot
pub carried_fits : (t : Table) (m : ℕ) (rope : Option NodeId) → IsRope t rope → IsCarried t m rope → rope_len t rope < fibonacci (m + 1) → IsSlot t m rope
carried_fits t m None there carried short = tt
carried_fits t m (Some id) there carried short =
    let below = fibonacci_below (depth_at t id.0 + 2) (m + 1) (omega (arith, carried.balanced, short)) in
    (there, omega (arith, below), carried.long)

pub slot_shallow : (t : Table) (m : ℕ) (s : Option NodeId) → IsSlot t m s → m < SLOTS → rope_depth t s < 64
slot_shallow t m None h lt = omega arith
slot_shallow t m (Some id) h lt = omega (arith, h.1)

pub gathered_shallow : (t : Table) (m : ℕ) (s : Option NodeId) → IsGathered t m s → m < SLOTS → rope_depth t s < 64
gathered_shallow t m None h lt = omega arith
gathered_shallow t m (Some id) h lt = omega (arith, h.0)

-- there is room for the node that joins a slot's rope and the carried one
pub room_for : (t : Table) (most : ℕ) (text : List Cell) (m : ℕ) (slots : List (Option NodeId)) (rope : Option NodeId) → IsSpread t most text m slots rope → m < SLOTS → length t.nodes + (ropes_in (get_or slots m None) + ropes_in rope) ≤ most
room_for t most text m slots rope spread lt =
    let count = full-set slots m None (omega (arith, spread.are.size)) in
    omega (arith, spread.nodes, count)

pub spread_within : (t : Table) (n1 n2 : ℕ) (x y : List Cell) (m : ℕ) (slots : List (Option NodeId)) (rope : Option NodeId) → IsSpread t n1 x m slots rope → n1 ≤ n2 → x ≡ y → IsSpread t n2 y m slots rope
spread_within t n1 n2 x y m slots rope spread n same = record {
  are = spread.are;
  empty = spread.empty;
  is_rope = spread.is_rope;
  whole = spread.whole ∙ same;
  nodes = omega (arith, spread.nodes, n);
}

pub one_at_most : (rope : Option NodeId) → ropes_in rope ≤ 1
one_at_most None = omega arith
one_at_most (Some id) = omega arith

-- a piece joined behind the carried rope
pub spread_behind : {F : Type 0} (meaning : F → ℕ → ℕ) (mid new : Held F) → IsSound (table_of meaning mid) → Extends (table_of meaning mid) (table_of meaning new) → (most : ℕ) (text cs : List Cell) (m : ℕ) (slots : List (Option NodeId)) (lower piece rope : Option NodeId)
    → IsSpread (table_of meaning mid) most text m slots lower → IsJoin meaning mid lower piece rope new → rope_cells (table_of meaning mid) piece ≡ cs → IsSpread (table_of meaning new) (most + 1) (text ++ cs) m slots rope
spread_behind meaning mid new s x most text cs m slots lower piece rope spread join is =
    let t = table_of meaning mid in
    let t' = table_of meaning new in
    let one = one_at_most piece in
    record {
      are = slots_stay t t' x slots spread.are;
      empty = spread.empty;
      is_rope = join.is_rope;
      whole = rw (cells_stay t t' s x slots spread.are, join.text, is) (sym (append_assoc (slots_cells t slots) (rope_cells t lower) cs) ∙ ap (λ k. k ++ cs) spread.whole);
      nodes = omega (arith, spread.nodes, join.nodes, one);
    }

-- a piece and the carried rope are no longer than the text
pub behind_short : (t : Table) → IsSound t → HasTrueRecords t → (most : ℕ) (text cs : List Cell) (m : ℕ) (slots : List (Option NodeId)) (lower piece : Option NodeId) → IsSpread t most text m slots lower → IsRope t piece → rope_cells t piece ≡ cs → length (text ++ cs) < 2 ^ 40
    → rope_len t lower + rope_len t piece < 2 ^ 40
behind_short t s h most text cs m slots lower piece spread there is short =
    let all : length (slots_cells t slots) + length (rope_cells t lower) ≡ length text = sym (length-append (slots_cells t slots) (rope_cells t lower)) ∙ ap length spread.whole in
    let both = length-append text cs in
    let left = rope_length t s h lower spread.is_rope in
    let right = rope_length t s h piece there in
    let same = ap length is in
    omega (arith, all, both, left, right, same, short)

pub piece_kept : (old new : Table) → Extends old new → (rope : Option NodeId) → IsShallowPiece old rope → IsShallowPiece new rope
piece_kept old new x None piece = record { there = tt; some = piece.some; shallow = piece.shallow }
piece_kept old new x (Some id) piece = record {
  there = omega (arith, piece.there, x.more_nodes);
  some = rw (len_kept old new x id.0 piece.there) piece.some;
  shallow = rw (depth_kept old new x id.0 piece.there, len_kept old new x id.0 piece.there) piece.shallow;
}

-- a piece is far from too deep
pub piece_shallow : (t : Table) → IsSound t → (rope : Option NodeId) → IsShallowPiece t rope → rope_depth t rope < 64
piece_shallow t s rope piece =
    let short = rope_short t s rope piece.there in
    elim piece.shallow [
      | inl leaf ↦ omega (arith, leaf)
      | inr fits ↦ let below = fibonacci_below (rope_depth t rope + 3) 60 (omega (arith, fits, short, sixtieth)) in omega (arith, below)
    ]

pub piece_len_kept : (old new : Table) → Extends old new → (rope : Option NodeId) → IsRope old rope → rope_len new rope ≡ rope_len old rope
piece_len_kept old new x None there = refl
piece_len_kept old new x (Some id) there = len_kept old new x id.0 there

pub none_of : (o : Option NodeId) → is_some o ≡ false → o ≡ None
none_of None h = refl
none_of (Some id) h = absurd cc

pub not_none : (o : Option NodeId) → is_some o ≡ true → o ≡ None → ⊥
not_none None h e = absurd cc
not_none (Some id) h e = cc
