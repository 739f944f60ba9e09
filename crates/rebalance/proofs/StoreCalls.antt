-- From what the store says of a call to what a step keeps to.
use Rattle.std.proofs.Common.{◌≡◌, ℕ, ◌+◌, ◌<◌, ◌≤◌, ◌⊎◌, inl, inr, min, Bool, true, false, List, [], ◌∷◌, ◌++◌, length, map, get_or, Option, Some, Result, Ok, Err, refl, sym, ap, subst, ◌∙◌, arith, length-append}
use Rattle.std.specs.Prelude.{IfOk, IfErr, ◌-◌}
use Rattle.std.proofs.lemmas.List.{length-map, get_or_push}
use Rattle.leaf_buffer.specs.Contents.{Contents}
use Rattle.rope_node.specs.declared.node.NodeId.{NodeId}
use Rattle.rope_node.specs.declared.node.NodeView.{NodeView}
use Rattle.rope_node.specs.declared.node.NodeView.TheVariants.{Lit, Src, Fun, Cat, Sub}
use Rattle.rope_node.specs.Table.{Node, Table, no_node, node_at, view_at, len_at, depth_at, depth_of, IsLeaf, IsSound, HasTrueRecords}
use Rattle.rope_node.specs.Denotes.{Cell, rope_len, rope_depth}
use Rattle.node_table.specs.declared.record.Record.{Record}
use Rattle.node_table.specs.declared.fault.NodeFault.{NodeFault}
use Rattle.node_table.specs.declared.fault.NodeFault.TheVariants.{TooLong, TooDeep, TableFull, PoolFull, BadSpan, TooManySources, Memory}
use Rattle.node_table.specs.Held.{Held, table_of, node_of, KeepsFunctions}
use Rattle.rope_store.specs.Additions.{Addition, Makes, pool_with, new_node, inner_part, node_part, part_added}
use Rattle.rope_store.specs.Refusals.{Refuses, IsTooDeep, deepest}
use Rattle.leaf_buffer.proofs.Appending.{appended_bytes}
use Rattle.rope_store.proofs.PartTexts.{some_part}
use Rattle.rope_node.specs.Balance.{fibonacci}
use Rattle.rope_node.specs.declared.node.Span.{Span}
use Rattle.rebalance.specs.Pieces.{IsWhole}
use Rattle.rebalance.specs.Slots.{IsShallowPiece}
use Rattle.rebalance.proofs.Fibonacci.{first_ones}
use Rattle.rebalance.proofs.FullStores.{refused_full}
use Rattle.rebalance.proofs.StepLaws.{functions_after, functions_itself}
use Rattle.rebalance.specs.Steps.{IsStepFault, Grows, Steps}

pool_grown : (pool : Contents) (in_place : Bool) (bytes : List ℕ) → length (pool_with pool in_place bytes).bytes ≡ length pool.bytes + length bytes
pool_grown pool true bytes = length-append pool.bytes bytes
pool_grown pool false bytes = ap length (appended_bytes pool bytes) ∙ length-append pool.bytes bytes

made_nodes : {F : Type 0} {meaning : F → ℕ → ℕ} {old new : Held F} {a : Addition F} {wanted : List Cell} {rope : Option NodeId} → Makes meaning old a wanted (Ok rope) new → length new.nodes ≡ length old.nodes + length a.records
made_nodes {F = F} {old = old} {a = a} made =
    ap (λ (h : Held F). length h.nodes) made.table ∙ length-append old.nodes (map node_of a.records) ∙ ap (λ (k : ℕ). length old.nodes + k) (length-map a.records node_of)

made_bytes : {F : Type 0} {meaning : F → ℕ → ℕ} {old new : Held F} {a : Addition F} {wanted : List Cell} {rope : Option NodeId} → Makes meaning old a wanted (Ok rope) new → length new.pool.bytes ≡ length old.pool.bytes + length a.bytes
made_bytes {F = F} {old = old} {a = a} made = ap (λ (h : Held F). length h.pool.bytes) made.table ∙ pool_grown old.pool a.in_place a.bytes

-- what a call adds is all that it does
pub made_grows : {F : Type 0} {meaning : F → ℕ → ℕ} {old new : Held F} {a : Addition F} {wanted : List Cell} (result : Result (Option NodeId) NodeFault) (nodes bytes : ℕ) → Makes meaning old a wanted result new → length old.nodes + length a.records ≤ nodes → length old.pool.bytes + length a.bytes ≤ bytes
    → Grows meaning old nodes bytes new
made_grows {F = F} {old = old} {a = a} (Ok rope) nodes bytes made n b = record {
  kept = made.kept;
  sources = ap (λ (h : Held F). h.sources) made.table;
  functions = subst (λ (h : Held F). KeepsFunctions old h) (sym made.table) (functions_after old a);
  few_nodes = omega (arith, made_nodes made, n);
  few_bytes = omega (arith, made_bytes made, b);
}
made_grows {F = F} {old = old} (Err e) nodes bytes made n b =
    let same_nodes = ap (λ (h : Held F). length h.nodes) made.unchanged in
    let same_bytes = ap (λ (h : Held F). length h.pool.bytes) made.unchanged in
    record {
      kept = made.kept;
      sources = ap (λ (h : Held F). h.sources) made.unchanged;
      functions = subst (λ (h : Held F). KeepsFunctions old h) (sym made.unchanged) (functions_itself old);
      few_nodes = omega (arith, same_nodes, n);
      few_bytes = omega (arith, same_bytes, b);
    }

pub refused_fault : {F : Type 0} {old : Held F} {a : Addition F} {IsBad IsLong : Type 0} (result : Result (Option NodeId) NodeFault) (nodes bytes : ℕ) → Refuses old a IsBad IsLong result → ¬ IsBad → ¬ IsLong → ¬ IsTooDeep a → length old.nodes + length a.records ≤ nodes
    → length old.pool.bytes + length a.bytes ≤ bytes → IfErr result (IsStepFault nodes bytes)
refused_fault (Ok rope) nodes bytes r fine short shallow n b = tt
refused_fault (Err TooLong) nodes bytes r fine short shallow n b = absurd (short (r.too_long.0 refl).1)
refused_fault (Err TooDeep) nodes bytes r fine short shallow n b = absurd (shallow (r.too_deep.0 refl).2)
refused_fault (Err TableFull) nodes bytes r fine short shallow n b = let full = (r.table_full.0 refl).3 in omega (arith, full, n)
refused_fault (Err PoolFull) nodes bytes r fine short shallow n b = let full = (r.pool_full.0 refl).4 in omega (arith, full, b)
refused_fault (Err BadSpan) nodes bytes r fine short shallow n b = absurd (fine (r.bad_span.0 refl))
refused_fault (Err TooManySources) nodes bytes r fine short shallow n b = absurd (r.no_other refl)
refused_fault (Err Memory) nodes bytes r fine short shallow n b = tt

-- the node of a call that adds one
one_made : {F : Type 0} (meaning : F → ℕ → ℕ) (old new : Held F) (a : Addition F) (r : Record F) (wanted : List Cell) (rope : Option NodeId) → a.records ≡ r ∷ [] → a.rope ≡ Some (new_node (table_of meaning old) 0) → Makes meaning old a wanted (Ok rope) new
    → (rope_len (table_of meaning new) rope ≡ r.len) × (rope_depth (table_of meaning new) rope ≡ r.depth)
one_made {F = F} meaning old new a r wanted rope one is made =
    let k = length old.nodes + 0 in
    let last : length old.nodes ≡ k = omega arith in
    let node : node_at (table_of meaning new) k ≡ node_of r =
    ap (λ (h : Held F). get_or h.nodes k no_node) made.table ∙ ap (λ (rs : List (Record F)). get_or (old.nodes ++ map node_of rs) k no_node) one ∙ get_or_push old.nodes (node_of r) no_node k last in
    let there = made.rope ∙ is in
    (ap (rope_len (table_of meaning new)) there ∙ ap (λ (n : Node). n.len) node, ap (rope_depth (table_of meaning new)) there ∙ ap (λ (n : Node). n.depth) node)

pub one_piece : {F : Type 0} (meaning : F → ℕ → ℕ) (old new : Held F) (a : Addition F) (r : Record F) (wanted : List Cell) (result : Result (Option NodeId) NodeFault) → a.records ≡ r ∷ [] → a.rope ≡ Some (new_node (table_of meaning old) 0) → 1 ≤ r.len → (r.depth ≡ 0) ⊎ ((r.depth ≡ 1) × (32 ≤ r.len))
    → Makes meaning old a wanted result new → IfOk result (λ rope. IsShallowPiece (table_of meaning new) rope)
one_piece meaning old new a r wanted (Err e) one is some shallow made = tt
one_piece meaning old new a r wanted (Ok rope) one is some shallow made =
    let at = one_made meaning old new a r wanted rope one is made in
    let fits : (r.depth ≡ 0) ⊎ (fibonacci (r.depth + 3) ≤ r.len) = elim shallow [
      | inl leaf ↦ inl leaf
      | inr (one_deep, many) ↦ inr (rw one_deep (omega (arith, first_ones.3, many)))
    ] in
    record { there = made.is_rope; some = rw at.0 some; shallow = rw (at.1, at.0) fits }

no_depth : (t : Table) (v : NodeView) → IsLeaf v → depth_of t v ≡ 0
no_depth t (Lit a) k = refl
no_depth t (Src s' a) k = refl
no_depth t Fun k = refl
no_depth t (Cat l r) k = absurd k
no_depth t (Sub b i) k = absurd k

-- a node as a whole
pub whole_piece : (t : Table) → IsSound t → HasTrueRecords t → (p : Span) → p.node.0 < length t.nodes → p.len ≡ len_at t p.node.0 → IsLeaf (view_at t p.node.0) ⊎ IsWhole t p → IsShallowPiece t (Some p.node)
whole_piece t s h p there all is = record {
  there = there;
  some = (s.nodes p.node.0 there).not_empty;
  shallow = elim is [
    | inl leaf ↦ inl ((h.nodes p.node.0 there).depth ∙ no_depth t (view_at t p.node.0) leaf)
    | inr whole ↦ inr (omega (arith, whole.1, all))
  ];
}

-- what a part of a leaf adds
pub record IsLeafPart {F : Type 0} (t : Table) (n : ℕ) (a : Addition F) : Type 0 where
  pub r : Record F
  pub records : a.records ≡ r ∷ []
  pub rope : a.rope ≡ Some (new_node t 0)
  pub bytes : a.bytes ≡ []
  pub len : r.len ≡ n
  pub shallow : (r.depth ≡ 0) ⊎ ((r.depth ≡ 1) × (32 ≤ n))

part_of : {F : Type 0} (t : Table) → HasTrueRecords t → (leaf : NodeId) (i n : ℕ) (v : NodeView) → leaf.0 < length t.nodes → view_at t leaf.0 ≡ v → IsLeaf v → (v ≡ Fun → 32 ≤ n) → IsLeafPart {F = F} t n (inner_part t leaf i n v)
part_of t h leaf i n (Lit a) there is holds long = record { r = _; records = refl; rope = refl; bytes = refl; len = refl; shallow = inl refl }
part_of t h leaf i n (Src s a) there is holds long = record { r = _; records = refl; rope = refl; bytes = refl; len = refl; shallow = inl refl }
part_of t h leaf i n Fun there is holds long =
    let none : depth_at t leaf.0 ≡ 0 = (h.nodes leaf.0 there).depth ∙ ap (depth_of t) is in
    record { r = _; records = refl; rope = refl; bytes = refl; len = refl; shallow = inr (omega (arith, none), long refl) }
part_of t h leaf i n (Cat l r) there is holds long = absurd holds
part_of t h leaf i n (Sub b j) there is holds long = absurd holds

pub part_is : {F : Type 0} (t : Table) → HasTrueRecords t → (leaf : NodeId) (i n : ℕ) → leaf.0 < length t.nodes → 1 ≤ n → i + n ≤ len_at t leaf.0 → ¬ (n ≡ len_at t leaf.0) → IsLeaf (view_at t leaf.0) → (view_at t leaf.0 ≡ Fun → 32 ≤ n) → IsLeafPart {F = F} t n (part_added t (Some leaf) i n)
part_is {F = F} t h leaf i n there some fits less holds long =
    let all : min n (len_at t leaf.0 - i) ≡ n = omega (arith, fits) in
    subst (IsLeafPart {F = F} t n) (sym (ap (λ (k : ℕ). node_part t leaf i k) all ∙ some_part t leaf i n some less))
    (part_of t h leaf i n (view_at t leaf.0) there refl holds long)

-- a part of a leaf is a step
pub part_steps : {F : Type 0} (meaning : F → ℕ → ℕ) (old new : Held F) (n : ℕ) (a : Addition F) (wanted : List Cell) (result : Result (Option NodeId) NodeFault) → IsLeafPart (table_of meaning old) n a → Makes meaning old a wanted result new → Refuses old a ⊥ ⊥ result
    → Steps meaning old (length old.nodes + 1) (length old.pool.bytes + 31) result new
part_steps {F = F} meaning old new n a wanted result part made refuses =
    let one : length a.records ≡ 1 = ap length part.records in
    let none : length a.bytes ≡ 0 = ap length part.bytes in
    let depth : deepest a.records ≡ deepest (part.r ∷ []) = ap deepest part.records in
    let shallow : ¬ IsTooDeep a = λ deep. elim part.shallow [
      | inl zero_deep ↦ omega (arith, depth, deep, zero_deep)
      | inr (one_deep, many) ↦ omega (arith, depth, deep, one_deep)
    ] in
    record {
      grows = made_grows result (length old.nodes + 1) (length old.pool.bytes + 31) made (omega (arith, one)) (omega (arith, none));
      fault = refused_fault result (length old.nodes + 1) (length old.pool.bytes + 31) refuses (λ bad. bad) (λ long. long) shallow (omega (arith, one)) (omega (arith, none));
      full = refused_full result 1 31 made refuses (λ _. record { records = omega (arith, one); bytes_added = omega (arith, none) }) (λ _ _. omega (arith, one));
    }

pub part_piece : {F : Type 0} (meaning : F → ℕ → ℕ) (old new : Held F) (n : ℕ) (a : Addition F) (wanted : List Cell) (result : Result (Option NodeId) NodeFault) → IsLeafPart (table_of meaning old) n a → 1 ≤ n → Makes meaning old a wanted result new
    → IfOk result (λ rope. IsShallowPiece (table_of meaning new) rope)
part_piece meaning old new n a wanted result part some made =
    one_piece meaning old new a part.r wanted result part.records part.rope (rw part.len some) (rw part.len part.shallow) made
