-- A table with more nodes behind its own.
use Rattle.std.proofs.Common.{◌≡◌, ℕ, ◌<◌, ◌≤◌, List, [], ◌∷◌, ◌++◌, length, map, get_or, Option, None, refl, sym, ap, subst, ◌∙◌, arith, length-append, append_assoc, ⊎_elim}
use Rattle.std.proofs.lemmas.Bool.{cases_lt}
use Rattle.std.proofs.lemmas.List.{length-map, map-append, get_or_append_left, get_or_push}
use Rattle.leaf_buffer.specs.declared.pool.TheConstants.{POOL_LIMIT}
use Rattle.rope_node.specs.declared.limits.TheConstants.{TEXT_LIMIT}
use Rattle.leaf_buffer.specs.Contents.{Contents}
use Rattle.rope_node.specs.Table.{Node, no_node, node_at, IsSound, IsSoundNode, IsTrueNode, HasTrueRecords}
use Rattle.rope_node.specs.Denotes.{cells, node_cells}
use Rattle.rope_node.specs.Extends.{Extends}
use Rattle.rope_node.proofs.Cells.{cells_at}
use Rattle.node_table.specs.declared.record.Record.{Record}
use Rattle.node_table.specs.Held.{Held, node_of, function_of_record, table_of, with_records, IsKept, IsKeptNode, IsGoodNode, CanHold}
use Rattle.node_table.proofs.Growing.{extends_records, good_kept}
use Rattle.leaf_buffer.proofs.PoolGrowth.{PoolGrows}

-- the rules of a table but for its sizes
pub record Holds {F : Type 0} (meaning : F → ℕ → ℕ) (h : Held F) : Type 0 where
  pub nodes : (id : ℕ) → id < length h.nodes → IsGoodNode meaning h id
  pub functions : length h.functions ≡ length h.nodes
  pub sources : (s : ℕ) → get_or h.sources s 0 < TEXT_LIMIT

pub holds_of : {F : Type 0} (meaning : F → ℕ → ℕ) (h : Held F) → IsKept meaning h → Holds meaning h
holds_of meaning h kept = record { nodes = kept.nodes; functions = kept.functions; sources = kept.sources }

pub sound_of : {F : Type 0} (meaning : F → ℕ → ℕ) (h : Held F) → Holds meaning h → length h.pool.bytes < POOL_LIMIT → IsSound (table_of meaning h)
sound_of meaning h holds short = record { nodes = λ id lt. (holds.nodes id lt).sound; pool = short; sources = holds.sources }

pub true_of : {F : Type 0} (meaning : F → ℕ → ℕ) (h : Held F) → Holds meaning h → HasTrueRecords (table_of meaning h)
true_of meaning h holds = record { nodes = λ id lt. (holds.nodes id lt).true_record }

-- more nodes and a longer pool extend a table
pub extends_with : {F : Type 0} (meaning : F → ℕ → ℕ) (h : Held F) (pool : Contents) (rs : List (Record F)) → length h.functions ≡ length h.nodes → PoolGrows h.pool pool → Extends (table_of meaning h) (table_of meaning (with_records h pool rs))
extends_with meaning h pool rs same grows = extends_records meaning h pool rs same grows.pieces grows.longer

-- a node keeps its rules
good_stays : {F : Type 0} (meaning : F → ℕ → ℕ) (h : Held F) (pool : Contents) (rs : List (Record F)) → length h.functions ≡ length h.nodes → PoolGrows h.pool pool → (id : ℕ) → id < length h.nodes → IsGoodNode meaning h id → IsGoodNode meaning (with_records h pool rs) id
good_stays meaning h pool rs same grows id lt good =
    good_kept meaning h (with_records h pool rs) (extends_with meaning h pool rs same grows) grows.pieces id lt
    (get_or_append_left h.functions (map function_of_record rs) None id (omega arith)) good

pub holds_after : {F : Type 0} (meaning : F → ℕ → ℕ) (h : Held F) (pool : Contents) (rs : List (Record F)) → Holds meaning h → PoolGrows h.pool pool → CanHold meaning h pool rs → Holds meaning (with_records h pool rs)
holds_after meaning h pool rs holds grows can = record {
  nodes = λ id lt.
      ⊎_elim (λ (below : id < length h.nodes). good_stays meaning h pool rs holds.functions grows id below (holds.nodes id below))
      (λ (over : length h.nodes ≤ id). can.nodes id over (omega (arith, length-append h.nodes (map node_of rs), length-map rs node_of))) (cases_lt id (length h.nodes));
  functions = omega (arith, length-append h.nodes (map node_of rs), length-map rs node_of, length-append h.functions (map function_of_record rs), length-map rs function_of_record, holds.functions);
  sources = holds.sources;
}

-- two steps are one
pub with_records_twice : {F : Type 0} (h : Held F) (pool : Contents) (rs ss : List (Record F)) → with_records (with_records h pool rs) pool ss ≡ with_records h pool (rs ++ ss)
with_records_twice h pool rs ss =
    let nodes : (h.nodes ++ map node_of rs) ++ map node_of ss ≡ h.nodes ++ map node_of (rs ++ ss) =
    append_assoc h.nodes (map node_of rs) (map node_of ss) ∙ ap (λ ns. h.nodes ++ ns) (sym (map-append node_of rs ss)) in
    let functions : (h.functions ++ map function_of_record rs) ++ map function_of_record ss ≡ h.functions ++ map function_of_record (rs ++ ss) =
    append_assoc h.functions (map function_of_record rs) (map function_of_record ss) ∙ ap (λ fs. h.functions ++ fs) (sym (map-append function_of_record rs ss)) in
    λ i. record { nodes = nodes i; functions = functions i; pool = pool; sources = h.sources }

-- what is put behind nodes that are put behind others
pub can_hold_both : {F : Type 0} (meaning : F → ℕ → ℕ) (h : Held F) (pool : Contents) (rs ss : List (Record F)) → Holds meaning h → PoolGrows h.pool pool → CanHold meaning h pool rs → CanHold meaning (with_records h pool rs) pool ss → CanHold meaning h pool (rs ++ ss)
can_hold_both {F = F} meaning h pool rs ss holds grows first second =
    let one = holds_after meaning h pool rs holds grows first in
    let both = holds_after meaning (with_records h pool rs) pool ss one (record { pieces = record { in_one_block = λ a n k. k; bytes = λ a n k. refl }; longer = omega arith; borders = grows.borders }) second in
    let all = subst (λ (k : Held F). Holds meaning k) (with_records_twice h pool rs ss) both in
    record { nodes = λ id from lt. all.nodes id (omega (arith, length-append h.nodes (map node_of (rs ++ ss)), length-map (rs ++ ss) node_of)) }

-- a node that keeps every rule, given as its parts
good_from : {F : Type 0} (meaning : F → ℕ → ℕ) (h : Held F) (id : ℕ) (n : Node) (f : Option F) → node_at (table_of meaning h) id ≡ n → get_or h.functions id None ≡ f → IsSoundNode (table_of meaning h) id n → IsTrueNode (table_of meaning h) n → IsKeptNode h.pool n.len n.view f → IsGoodNode meaning h id
good_from meaning h id n f is_node is_function sound true_record kept = record {
  sound = rw is_node sound;
  true_record = rw is_node true_record;
  kept = rw (is_node, is_function) kept;
}

-- one more node keeps the rules, where its record does
pub can_hold_one : {F : Type 0} (meaning : F → ℕ → ℕ) (h : Held F) (pool : Contents) (r : Record F) → length h.functions ≡ length h.nodes → IsSoundNode (table_of meaning (with_records h pool (r ∷ []))) (length h.nodes) (node_of r) → IsTrueNode (table_of meaning (with_records h pool (r ∷ []))) (node_of r) → IsKeptNode pool r.len r.view r.function → CanHold meaning h pool (r ∷ [])
can_hold_one meaning h pool r same sound true_record kept = record {
  nodes = λ id from lt.
      let here : length h.nodes ≡ id = omega arith in
      subst (λ (k : ℕ). IsGoodNode meaning (with_records h pool (r ∷ [])) k) here
      (good_from meaning (with_records h pool (r ∷ [])) (length h.nodes) (node_of r) r.function (get_or_push h.nodes (node_of r) no_node (length h.nodes) refl)
      (get_or_push h.functions r.function None (length h.nodes) same) sound true_record kept);
}

-- one more node's cells
pub cells_of_last : {F : Type 0} (meaning : F → ℕ → ℕ) (h : Held F) (pool : Contents) (r : Record F) → IsSound (table_of meaning (with_records h pool (r ∷ [])))
    → cells (table_of meaning (with_records h pool (r ∷ []))) (length h.nodes) ≡ node_cells (table_of meaning (with_records h pool (r ∷ []))) (cells (table_of meaning (with_records h pool (r ∷ [])))) (length h.nodes) r.len r.view
cells_of_last meaning h pool r sound =
    let t = table_of meaning (with_records h pool (r ∷ [])) in
    let is : node_at t (length h.nodes) ≡ node_of r = get_or_push h.nodes (node_of r) no_node (length h.nodes) refl in
    cells_at t sound (length h.nodes) (omega (arith, length-append h.nodes (node_of r ∷ []))) r.view (ap (λ (n : Node). n.view) is)
    ∙ ap (λ (n : Node). node_cells t (cells t) (length h.nodes) n.len r.view) is
