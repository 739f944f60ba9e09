-- What a refused call says of the store, which it leaves as it was.
use Rattle.std.proofs.Common.{ℕ, ◌+◌, ◌<◌, ◌≤◌, inl, inr, List, [], ◌∷◌, ◌++◌, length, Option, Some, None, Result, Ok, Err, refl, sym, ap, subst, arith}
use Rattle.std.specs.Prelude.{IfErr}
use Rattle.std.proofs.lemmas.Bool.{cases_lt}
use Rattle.leaf_buffer.specs.declared.pool.TheConstants.{POOL_LIMIT}
use Rattle.leaf_buffer.specs.Contents.{Contents}
use Rattle.rope_node.specs.declared.limits.TheConstants.{MOST_NODES}
use Rattle.rope_node.specs.declared.node.NodeId.{NodeId}
use Rattle.rope_node.specs.Table.{Table, len_at, view_at}
use Rattle.rope_node.specs.Denotes.{Cell}
use Rattle.node_table.specs.declared.fault.NodeFault.{NodeFault}
use Rattle.node_table.specs.declared.fault.NodeFault.TheVariants.{TooLong, TooDeep, TableFull, PoolFull, BadSpan, TooManySources, Memory}
use Rattle.node_table.specs.Held.{Held}
use Rattle.rope_store.specs.Additions.{Addition, Makes}
use Rattle.rope_store.specs.Appending.{copied, copied_behind, grown, literal_place, merged_after, IsAppend, IsAppendTo}
use Rattle.rope_store.specs.Joining.{ending_taking, ending_with, joined, merged, nodes_joined, piece}
use Rattle.rope_store.specs.Refusals.{Refuses, IsTableFull, IsTooDeep, PassesPoolLimit}
use Rattle.rope_store.proofs.CallSizes.{at_most, IsFew}
use Rattle.rebalance.specs.Balancing.{IsLeftFull}
use Rattle.rebalance.specs.Steps.{IsFullAt}
use Rattle.rebalance.specs.declared.fault.BalanceFault.{BalanceFault}
use Rattle.rebalance.specs.declared.fault.BalanceFault.TheVariants.{TooManyPieces, Node}

-- ---- the store's own calls

free_numbers : {F : Type 0} (old : Held F) (a : Addition F) → ¬ IsTableFull old a → 1 ≤ length a.records → length old.nodes < MOST_NODES
free_numbers old a free some =
    elim (cases_lt MOST_NODES (length old.nodes + length a.records)) [
      | inl full ↦ absurd (free full)
      | inr fits ↦ omega (arith, fits, some)
    ]

-- memory is wanting only where the table is not full
not_full : {F : Type 0} {old : Held F} {a : Addition F} {IsBad IsLong : Type 0} → Refuses old a IsBad IsLong (Err Memory) → ¬ IsTableFull old a
not_full {F = F} {old = old} {a = a} {IsBad = IsBad} {IsLong = IsLong} r full =
    let fine : ¬ IsBad = λ bad. let is = r.bad_span.1 bad in cc in
    let short : ¬ IsLong = λ long. let is = r.too_long.1 (fine, long) in cc in
    let shallow : ¬ IsTooDeep a = λ deep. let is = r.too_deep.1 (fine, short, deep) in cc in
    let is = r.table_full.1 (fine, short, shallow, full) in
    cc

pub refused_full : {F : Type 0} {meaning : F → ℕ → ℕ} {old new : Held F} {a : Addition F} {wanted : List Cell} {IsBad IsLong : Type 0} (result : Result (Option NodeId) NodeFault) (nodes bytes : ℕ) → Makes meaning old a wanted result new → Refuses old a IsBad IsLong result → (¬ IsLong → IsFew a nodes bytes)
    → (¬ IsLong → PassesPoolLimit old a → 1 ≤ length a.records) → IfErr result (IsFullAt new nodes bytes)
refused_full (Ok rope) nodes bytes made r few some = tt
refused_full (Err TooLong) nodes bytes made r few some = tt
refused_full (Err TooDeep) nodes bytes made r few some = tt
refused_full {F = F} (Err TableFull) nodes bytes made r few some =
    let full = r.table_full.0 refl in
    let size = few full.1 in
    let same = ap (λ (h : Held F). length h.nodes) made.unchanged in
    omega (arith, full.3, size.records, same)
refused_full {F = F} {old = old} {a = a} (Err PoolFull) nodes bytes made r few some =
    let full = r.pool_full.0 refl in
    let size = few full.1 in
    let free = free_numbers old a full.3 (some full.1 full.4) in
    let same_nodes = ap (λ (h : Held F). length h.nodes) made.unchanged in
    let same_bytes = ap (λ (h : Held F). length h.pool.bytes) made.unchanged in
    (omega (arith, free, same_nodes), omega (arith, full.4, size.bytes_added, same_bytes))
refused_full (Err BadSpan) nodes bytes made r few some = tt
refused_full (Err TooManySources) nodes bytes made r few some = tt
refused_full {F = F} {old = old} {a = a} (Err Memory) nodes bytes made r few some =
    let free = free_numbers old a (not_full r) (r.memory refl) in
    let same = ap (λ (h : Held F). length h.nodes) made.unchanged in
    omega (arith, free, same)

-- ---- a step that may want more

pub full_within : {F : Type 0} (h : Held F) (n1 b1 n2 b2 : ℕ) (e : NodeFault) → n1 ≤ n2 → b1 ≤ b2 → IsFullAt h n1 b1 e → IsFullAt h n2 b2 e
full_within h n1 b1 n2 b2 TooLong n b full = tt
full_within h n1 b1 n2 b2 TooDeep n b full = tt
full_within h n1 b1 n2 b2 TableFull n b full = omega (arith, n, full)
full_within h n1 b1 n2 b2 PoolFull n b full = (full.0, omega (arith, b, full.1))
full_within h n1 b1 n2 b2 BadSpan n b full = tt
full_within h n1 b1 n2 b2 TooManySources n b full = tt
full_within h n1 b1 n2 b2 Memory n b full = full

pub left_within : {F : Type 0} (h : Held F) (n1 b1 n2 b2 : ℕ) (e : BalanceFault) → n1 ≤ n2 → b1 ≤ b2 → IsLeftFull h n1 b1 e → IsLeftFull h n2 b2 e
left_within h n1 b1 n2 b2 TooManyPieces n b full = tt
left_within h n1 b1 n2 b2 (Node e) n b full = full_within h n1 b1 n2 b2 e n b full

-- ---- bytes come with a node

-- where the pool has not passed its limit before
pub nodes_wanted : {F : Type 0} (old : Held F) (a : Addition F) → length old.pool.bytes < POOL_LIMIT → (1 ≤ length a.bytes → 1 ≤ length a.records) → PassesPoolLimit old a → 1 ≤ length a.records
nodes_wanted old a below with_node passes = with_node (omega (arith, below, passes))

merged_some : (F : Type 0) (t : Table) (before : Option NodeId) (bytes : List ℕ) → 1 ≤ length (merged {F = F} t before bytes).records
merged_some F t None bytes = omega arith
merged_some F t (Some l) bytes = omega arith

either : {A : Type 0} (P : Option A → Type 0) (o : Option A) → P None → ((a : A) → P (Some a)) → P o
either P None none some = none
either P (Some a) none some = some a

pub joined_some : (F : Type 0) (t : Table) (l r : Option NodeId) → 1 ≤ length (joined {F = F} t l r).bytes → 1 ≤ length (joined {F = F} t l r).records
joined_some F t None r some = absurd (omega (arith, some))
joined_some F t (Some l) None some = absurd (omega (arith, some))
joined_some F t (Some l) (Some r) some =
    either (λ o. 1 ≤ length (nodes_joined {F = F} t l r o).records) (ending_taking t l r) (omega arith) (λ e. merged_some F t e.before (piece t e.literal ++ piece t r))

grown_some : (F : Type 0) (t : Table) (before : Option NodeId) (a n : ℕ) (bytes : List ℕ) → 1 ≤ length (grown {F = F} t before a n bytes).records
grown_some F t None a n bytes = omega arith
grown_some F t (Some l) a n bytes = omega arith

after_some : (F : Type 0) (t : Table) (before : Option NodeId) (bytes all : List ℕ) → 1 ≤ length (merged_after {F = F} t before bytes all).records
after_some F t None bytes all = omega arith
after_some F t (Some l) bytes all = omega arith

copied_some : (F : Type 0) (t : Table) (x : NodeId) (bytes : List ℕ) → 1 ≤ length (copied_behind {F = F} t x bytes).records
copied_some F t x bytes =
    either (λ o. 1 ≤ length (copied {F = F} t x bytes o).records) (ending_with t x (length bytes)) (merged_some F t (Some x) bytes) (λ e. after_some F t e.before bytes (piece t e.literal ++ bytes))

appended_some : {F : Type 0} (pool : Contents) (t : Table) (x : NodeId) (bytes : List ℕ) (a : Addition F) → IsAppendTo pool t x bytes a → 1 ≤ length a.records
appended_some {F = F} pool t x bytes a is =
    at_most 1 (length a.records) (λ no.
    no (subst (λ (k : Addition F). 1 ≤ length k.records) (sym (is.copied (λ e found can.
    no (subst (λ (k : Addition F). 1 ≤ length k.records) (sym (is.in_place e found can)) (grown_some F t e.before (literal_place (view_at t e.literal.0)) (len_at t e.literal.0) bytes)))))
    (copied_some F t x bytes)))

pub append_some : {F : Type 0} (pool : Contents) (t : Table) (x : Option NodeId) (bytes : List ℕ) (a : Addition F) → IsAppend pool t x bytes a → 1 ≤ length a.bytes → 1 ≤ length a.records
append_some {F = F} pool t x [] a is some = let none = ap (λ (k : Addition F). length k.bytes) is in absurd (omega (arith, some, none))
append_some {F = F} pool t None (b ∷ bs) a is some = subst (λ (k : Addition F). 1 ≤ length k.records) (sym is) (merged_some F t None (b ∷ bs))
append_some pool t (Some x) (b ∷ bs) a is some = appended_some pool t x (b ∷ bs) a is
