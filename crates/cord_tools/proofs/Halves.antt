-- Two ropes put together, neither of them deep: how deep the rope of both is, what it adds, and why it may be refused.
use Rattle.std.proofs.Common.{◌≡◌, ℕ, zero, suc, ◌+◌, ◌<◌, ◌≤◌, ◌^◌, List, ◌++◌, length, map, get_or, inl, Option, Some, None, Result, Ok, Err, refl, sym, ap, subst, ◌∙◌, arith}
use Rattle.rope_node.specs.declared.limits.TheConstants.{MOST_NODES}
use Rattle.rope_store.specs.declared.endings.TheConstants.{MOST_MERGED}
use Rattle.std.specs.Prelude.{◌-◌, ◌/◌, IfOk, IfErr, OnOk, nat_le}
use Rattle.std.proofs.Math.Nat.{pow-suc}
use Rattle.std.proofs.lemmas.Bool.{cond_both}
use Rattle.std.proofs.lemmas.List.{get_or_append_left, get_or-append-add}
use Rattle.function_leaf.specs.Coded.{coded_byte}
use Rattle.function_leaf.specs.declared.coded.Coded.{Coded}
use Rattle.rope_node.specs.declared.node.NodeId.{NodeId}
use Rattle.rope_node.specs.declared.node.NodeView.{NodeView}
use Rattle.rope_node.specs.declared.node.NodeView.TheVariants.{Lit, Src, Fun, Cat, Sub}
use Rattle.rope_node.specs.Table.{Node, no_node, view_at, len_at, depth_at, depth_of, IsSound, HasTrueRecords}
use Rattle.rope_node.specs.Denotes.{Cell, rope_len, rope_depth, IsRope}
use Rattle.node_table.specs.declared.fault.NodeFault.{NodeFault}
use Rattle.node_table.specs.declared.fault.NodeFault.TheVariants.{TooLong, TooDeep, TableFull, PoolFull, BadSpan, TooManySources, Memory}
use Rattle.node_table.specs.Held.{Held, node_of, table_of}
use Rattle.rope_store.specs.Additions.{Addition, Makes, after, concatenated}
use Rattle.rope_store.specs.Joining.{right_ending, view_ending, short_ending, ending_for, merged, piece, nodes_joined, joined}
use Rattle.rope_store.specs.Refusals.{Refuses, IsTooDeep, IsTableFull, PassesPoolLimit}
use Rattle.rope_store.proofs.CallSizes.{joined_few, joined_shallow}
use Rattle.rebalance.specs.AnyForms.{AnyForm, lifted}
use Rattle.rebalance.specs.declared.fault.BalanceFault.{BalanceFault}
use Rattle.rebalance.proofs.AnyLaws.{lifted_is_ok}
use Rattle.rebalance.proofs.StoreCalls.{made_grows}
use Rattle.cord_tools.specs.Faults.{IsJoinFault, tool_rope_fault}

-- the depth of the rope that an addition answers
abbrev depth_after : Held Coded → Addition Coded → ℕ
depth_after old a = rope_depth (table_of coded_byte (after old a)) a.rope

old_depth : (old : Held Coded) (a : Addition Coded) (x : Option NodeId) → IsRope (table_of coded_byte old) x → rope_depth (table_of coded_byte (after old a)) x ≡ rope_depth (table_of coded_byte old) x
old_depth old a None there = refl
old_depth old a (Some x) there = ap (λ (n : Node). n.depth) (get_or_append_left old.nodes (map node_of a.records) no_node x.0 there)

new_depth : (old : Held Coded) (a : Addition Coded) (k : ℕ) → depth_at (table_of coded_byte (after old a)) (length old.nodes + k) ≡ (get_or (map node_of a.records) k no_node).depth
new_depth old a k = ap (λ (n : Node). n.depth) (get_or-append-add old.nodes (map node_of a.records) k no_node)

merged_depth : (old : Held Coded) (d : ℕ) (before : Option NodeId) (bytes : List ℕ) → rope_depth (table_of coded_byte old) before ≤ d → depth_after old (merged (table_of coded_byte old) before bytes) ≤ 1 + d
merged_depth old d None bytes le = omega (arith, new_depth old (merged (table_of coded_byte old) None bytes) 0)
merged_depth old d (Some x) bytes le = omega (arith, le, new_depth old (merged (table_of coded_byte old) (Some x) bytes) 1)

concatenated_depth : (old : Held Coded) (d : ℕ) (l r : NodeId) → depth_at (table_of coded_byte old) l.0 ≤ d → depth_at (table_of coded_byte old) r.0 ≤ d → depth_after old (concatenated (table_of coded_byte old) l r) ≤ 1 + d
concatenated_depth old d l r dl dr = omega (arith, dl, dr, new_depth old (concatenated (table_of coded_byte old) l r) 0)

-- where l is a concatenation of x and y, and this is y's view
right_depth : (old : Held Coded) (d n : ℕ) (l r x y : NodeId) (v : NodeView) → depth_at (table_of coded_byte old) l.0 ≤ d → depth_at (table_of coded_byte old) r.0 ≤ d → depth_at (table_of coded_byte old) x.0 ≤ d
    → depth_after old (nodes_joined (table_of coded_byte old) l r (short_ending (table_of coded_byte old) n (right_ending x y v))) ≤ 1 + d
right_depth old d n l r x y (Lit a) dl dr dx =
    let t = table_of coded_byte old in
    cond_both (nat_le (len_at t y.0 + n) MOST_MERGED) (right_ending x y (Lit a)) None (λ o. depth_after old (nodes_joined t l r o) ≤ 1 + d) (λ is. merged_depth old d (Some x) (piece t y ++ piece t r) dx) (λ is. concatenated_depth old d l r dl dr)
right_depth old d n l r x y (Src s a) dl dr dx = concatenated_depth old d l r dl dr
right_depth old d n l r x y Fun dl dr dx = concatenated_depth old d l r dl dr
right_depth old d n l r x y (Cat z w) dl dr dx = concatenated_depth old d l r dl dr
right_depth old d n l r x y (Sub b i) dl dr dx = concatenated_depth old d l r dl dr

-- where this is l's view
left_depth : (old : Held Coded) (d n : ℕ) (l r : NodeId) (v : NodeView) → depth_at (table_of coded_byte old) l.0 ≤ d → depth_at (table_of coded_byte old) r.0 ≤ d → depth_of (table_of coded_byte old) v ≤ d
    → depth_after old (nodes_joined (table_of coded_byte old) l r (short_ending (table_of coded_byte old) n (view_ending (table_of coded_byte old) l v))) ≤ 1 + d
left_depth old d n l r (Lit a) dl dr dv =
    let t = table_of coded_byte old in
    cond_both (nat_le (len_at t l.0 + n) MOST_MERGED) (view_ending t l (Lit a)) None (λ o. depth_after old (nodes_joined t l r o) ≤ 1 + d) (λ is. merged_depth old d None (piece t l ++ piece t r) (omega arith)) (λ is. concatenated_depth old d l r dl dr)
left_depth old d n l r (Src s a) dl dr dv = concatenated_depth old d l r dl dr
left_depth old d n l r Fun dl dr dv = concatenated_depth old d l r dl dr
left_depth old d n l r (Cat x y) dl dr dv = right_depth old d n l r x y (view_at (table_of coded_byte old) y.0) dl dr (omega (arith, dv))
left_depth old d n l r (Sub b i) dl dr dv = concatenated_depth old d l r dl dr

-- where this is r's view
nodes_depth : (old : Held Coded) (d : ℕ) (l r : NodeId) (v : NodeView) → depth_at (table_of coded_byte old) l.0 ≤ d → depth_at (table_of coded_byte old) r.0 ≤ d → depth_of (table_of coded_byte old) (view_at (table_of coded_byte old) l.0) ≤ d
    → depth_after old (nodes_joined (table_of coded_byte old) l r (ending_for (table_of coded_byte old) l r v)) ≤ 1 + d
nodes_depth old d l r (Lit a) dl dr dv = left_depth old d (len_at (table_of coded_byte old) r.0) l r (view_at (table_of coded_byte old) l.0) dl dr dv
nodes_depth old d l r (Src s a) dl dr dv = concatenated_depth old d l r dl dr
nodes_depth old d l r Fun dl dr dv = concatenated_depth old d l r dl dr
nodes_depth old d l r (Cat x y) dl dr dv = concatenated_depth old d l r dl dr
nodes_depth old d l r (Sub b i) dl dr dv = concatenated_depth old d l r dl dr

-- the rope of both is one level deeper at most
joined_depth : (old : Held Coded) → HasTrueRecords (table_of coded_byte old) → (d : ℕ) (l r : Option NodeId) → IsRope (table_of coded_byte old) l → IsRope (table_of coded_byte old) r → rope_depth (table_of coded_byte old) l ≤ d → rope_depth (table_of coded_byte old) r ≤ d
    → depth_after old (joined (table_of coded_byte old) l r) ≤ 1 + d
joined_depth old h d None r left right dl dr = omega (arith, dr, old_depth old (joined (table_of coded_byte old) None r) r right)
joined_depth old h d (Some l) None left right dl dr = omega (arith, dl, old_depth old (joined (table_of coded_byte old) (Some l) None) (Some l) left)
joined_depth old h d (Some l) (Some r) left right dl dr = nodes_depth old d l r (view_at (table_of coded_byte old) r.0) dl dr (omega (arith, dl, (h.nodes l.0 left).depth))

-- a half has one level less
pub half_levels : (count levels : ℕ) → 2 ≤ count → count ≤ 2 ^ levels → (k : ℕ) × (levels ≡ 1 + k) × (count / 2 ≤ 2 ^ k) × (count - count / 2 ≤ 2 ^ k)
half_levels count zero some le = let few : count ≤ 1 = le in absurd (omega (arith, some, few))
half_levels count (suc k) some le =
    let twice = pow-suc 2 k in
    (k, omega arith, omega (arith, le, twice), omega (arith, le, twice))

abbrev AreLong : Held Coded → Option NodeId → Option NodeId → Type 0
AreLong old l r = 2 ^ 40 ≤ rope_len (table_of coded_byte old) l + rope_len (table_of coded_byte old) r

-- what two ropes put together add
pub record JoinsHalves (old : Held Coded) (l r rope : Option NodeId) (new : Held Coded) : Type 0 where
  pub short : ¬ AreLong old l r
  pub nodes : length new.nodes ≤ length old.nodes + 3
  pub bytes : length new.pool.bytes ≤ length old.pool.bytes + 31
  pub depth : (d : ℕ) → rope_depth (table_of coded_byte old) l ≤ d → rope_depth (table_of coded_byte old) r ≤ d → rope_depth (table_of coded_byte new) rope ≤ 1 + d

halves_made : (old new : Held Coded) (l r rope : Option NodeId) (wanted : List Cell) → IsSound (table_of coded_byte old) → HasTrueRecords (table_of coded_byte old) → IsRope (table_of coded_byte old) l → IsRope (table_of coded_byte old) r
    → Makes coded_byte old (joined (table_of coded_byte old) l r) wanted (Ok rope) new → ¬ AreLong old l r → JoinsHalves old l r rope new
halves_made old new l r rope wanted s h left right made short =
    let t = table_of coded_byte old in
    let few = joined_few {F = Coded} t s h l r left right in
    let grows = made_grows (Ok rope) (length old.nodes + 3) (length old.pool.bytes + 31) made (omega (arith, few.records)) (omega (arith, few.bytes_added)) in
    record {
      short = short;
      nodes = grows.few_nodes;
      bytes = grows.few_bytes;
      depth = λ d dl dr.
          let same : rope_depth (table_of coded_byte new) rope ≡ depth_after old (joined t l r) =
          ap (rope_depth (table_of coded_byte new)) made.rope ∙ ap (λ (u : Held Coded). rope_depth (table_of coded_byte u) (joined {F = Coded} t l r).rope) made.table in
          omega (arith, same, joined_depth old h d l r left right dl dr);
    }

pub halves_joined : (old new : Held Coded) (l r : Option NodeId) (wanted : List Cell) (p q : ℕ) (result : Result (Option NodeId) BalanceFault) → IsSound (table_of coded_byte old) → HasTrueRecords (table_of coded_byte old) → IsRope (table_of coded_byte old) l → IsRope (table_of coded_byte old) r
    → rope_depth (table_of coded_byte old) l ≤ 63 → rope_depth (table_of coded_byte old) r ≤ 63 → AnyForm coded_byte old (joined (table_of coded_byte old) l r) wanted (AreLong old l r) (record { left_pieces = p; right_pieces = q; nodes = 2; bytes = 31 }) result new → IfOk result (λ rope. JoinsHalves old l r rope new)
halves_joined old new l r wanted p q (Err e) s h left right dl dr any = tt
halves_joined old new l r wanted p q (Ok rope) s h left right dl dr any =
    let t = table_of coded_byte old in
    let call = any.as_plain (inl (joined_shallow Coded t s h l r left right dl dr)) in
    halves_made old new l r rope wanted s h left right
    (subst (λ (k : Result (Option NodeId) NodeFault). Makes coded_byte old (joined t l r) wanted k new) (lifted_is_ok call.plain rope (sym call.same)) call.makes)
    (λ long. let refused = any.too_long.1 long in absurd cc)

-- what holds of each answer holds where there is one
pub on_ok : {A E : Type 0} {P : A → Type 0} {Q : Type 0} (result : Result A E) → ((a : A) → P a → Q) → IfOk result P → OnOk result Q
on_ok (Ok a) holds h = holds a h
on_ok (Err e) holds h = tt

-- ---- the rope of both is refused as too long, or for want of memory

plain_fault : (old : Held Coded) (a : Addition Coded) (IsLong : Type 0) (plain : Result (Option NodeId) NodeFault) → Refuses old a ⊥ IsLong plain → ¬ IsTooDeep a → ¬ IsTableFull old a → ¬ PassesPoolLimit old a → IfErr (lifted plain) (λ e. IsJoinFault (tool_rope_fault e))
plain_fault old a IsLong (Ok rope) r shallow free room = tt
plain_fault old a IsLong (Err TooLong) r shallow free room = refl
plain_fault old a IsLong (Err TooDeep) r shallow free room = absurd (shallow (r.too_deep.0 refl).2)
plain_fault old a IsLong (Err TableFull) r shallow free room = absurd (free (r.table_full.0 refl).3)
plain_fault old a IsLong (Err PoolFull) r shallow free room = absurd (room (r.pool_full.0 refl).4)
plain_fault old a IsLong (Err BadSpan) r shallow free room = absurd (r.bad_span.0 refl)
plain_fault old a IsLong (Err TooManySources) r shallow free room = absurd (r.no_other refl)
plain_fault old a IsLong (Err Memory) r shallow free room = tt

pub halves_refused : (old new : Held Coded) (l r : Option NodeId) (wanted : List Cell) (p q : ℕ) (result : Result (Option NodeId) BalanceFault) → IsSound (table_of coded_byte old) → HasTrueRecords (table_of coded_byte old) → IsRope (table_of coded_byte old) l → IsRope (table_of coded_byte old) r
    → rope_depth (table_of coded_byte old) l ≤ 63 → rope_depth (table_of coded_byte old) r ≤ 63 → length old.nodes + 3 ≤ MOST_NODES → length old.pool.bytes + 31 < 2 ^ 32 → AnyForm coded_byte old (joined (table_of coded_byte old) l r) wanted (AreLong old l r) (record { left_pieces = p; right_pieces = q; nodes = 2; bytes = 31 }) result new
    → IfErr result (λ e. IsJoinFault (tool_rope_fault e))
halves_refused old new l r wanted p q result s h left right dl dr nodes bytes any =
    let t = table_of coded_byte old in
    let few = joined_few {F = Coded} t s h l r left right in
    let shallow = joined_shallow Coded t s h l r left right dl dr in
    let call = any.as_plain (inl shallow) in
    subst (λ (k : Result (Option NodeId) BalanceFault). IfErr k (λ e. IsJoinFault (tool_rope_fault e))) (sym call.same)
    (plain_fault old (joined t l r) (AreLong old l r) call.plain call.refuses shallow (λ full. omega (arith, full, few.records, nodes)) (λ full. omega (arith, full, few.bytes_added, bytes)))
