-- What a table holds, and what may be put into it.
use Rattle.std.specs.Prelude.{◌≡◌, ℕ, ◌+◌, ◌<◌, ◌≤◌, List, All, length, map, get_or, ◌++◌, Option, Some, None}
use Rattle.function_leaf.specs.declared.coded.Coded.{Coded}
use Rattle.function_leaf.specs.Optional.{answer_of, or_fill}
use Rattle.leaf_buffer.specs.Contents.{Contents, IsInOneBlock}
use Rattle.leaf_buffer.specs.declared.pool.TheConstants.{POOL_LIMIT}
use Rattle.rope_node.specs.declared.limits.TheConstants.{MOST_NODES, MOST_SOURCES, TEXT_LIMIT}
use Rattle.rope_node.specs.declared.node.NodeView.{NodeView}
use Rattle.rope_node.specs.declared.node.NodeView.TheVariants.{Lit, Src, Fun, Cat, Sub}
use Rattle.rope_node.specs.Table.{Node, Table, node_at, IsSoundNode, IsTrueNode}
use Rattle.node_table.specs.declared.record.Record.{Record}

-- the nodes, the function of each that is one, the pool, and the sources' lengths
pub record Held (F : Type 0) : Type 0 where
  pub nodes : List Node
  pub functions : List (Option F)
  pub pool : Contents
  pub sources : List ℕ

abbrev pub node_of : {F : Type 0} → Record F → Node
node_of r = record { view = r.view; len = r.len; depth = r.depth }

abbrev pub function_of_record : {F : Type 0} → Record F → Option F
function_of_record r = r.function

-- what records, a pool and sources hold together
abbrev pub held_of : {F : Type 0} → List (Record F) → Contents → List ℕ → Held F
held_of records pool sources = record {
  nodes = map node_of records;
  functions = map function_of_record records;
  pool = pool;
  sources = sources;
}

-- the table of nodes that this is, where each function means these bytes; a missing one answers 0
abbrev pub table_of : {F : Type 0} → (F → ℕ → ℕ) → Held F → Table
table_of meaning h = record {
  nodes = h.nodes;
  pool = h.pool.bytes;
  sources = h.sources;
  answer = λ id i. answer_of meaning (get_or h.functions id None) i;
}

-- the coded function of a node, a fill of zeros where there is none
abbrev pub held_coded : Held Coded → ℕ → Coded
held_coded h id = or_fill (get_or h.functions id None)

-- with these nodes behind the others, and this pool
abbrev pub with_records : {F : Type 0} → Held F → Contents → List (Record F) → Held F
with_records h pool records = record {
  nodes = h.nodes ++ map node_of records;
  functions = h.functions ++ map function_of_record records;
  pool = pool;
  sources = h.sources;
}

-- the functions of the older nodes are as they were
pub record KeepsFunctions {F : Type 0} (old new : Held F) : Type 0 where
  pub same : (id : ℕ) → id < length old.functions → get_or new.functions id None ≡ get_or old.functions id None
  pub more : length old.functions ≤ length new.functions

-- a literal lies in one block of the pool; a function is there, and nothing else holds one
abbrev pub IsKeptNode : {F : Type 0} → Contents → ℕ → NodeView → Option F → Type 0
IsKeptNode pool n (Lit a) f = (f ≡ None) × IsInOneBlock pool a n
IsKeptNode pool n (Src s a) f = f ≡ None
IsKeptNode pool n Fun None = ⊥
IsKeptNode pool n Fun (Some f) = Unit {0}
IsKeptNode pool n (Cat l r) f = f ≡ None
IsKeptNode pool n (Sub b i) f = f ≡ None

-- this node of a table keeps every rule
pub record IsGoodNode {F : Type 0} (meaning : F → ℕ → ℕ) (h : Held F) (id : ℕ) : Type 0 where
  pub sound : IsSoundNode (table_of meaning h) id (node_at (table_of meaning h) id)
  pub true_record : IsTrueNode (table_of meaning h) (node_at (table_of meaning h) id)
  pub kept : IsKeptNode h.pool (node_at (table_of meaning h) id).len (node_at (table_of meaning h) id).view
      (get_or h.functions id None)

-- what a table keeps to; each block of its pool begins before the pool's end
pub record IsKept {F : Type 0} (meaning : F → ℕ → ℕ) (h : Held F) : Type 0 where
  pub nodes : (id : ℕ) → id < length h.nodes → IsGoodNode meaning h id
  pub functions : length h.functions ≡ length h.nodes
  pub few : length h.nodes ≤ MOST_NODES
  pub pool : length h.pool.bytes < POOL_LIMIT
  pub borders : All (λ border. border < length h.pool.bytes) h.pool.borders
  pub few_sources : length h.sources ≤ MOST_SOURCES
  pub sources : (s : ℕ) → get_or h.sources s 0 < TEXT_LIMIT

-- each of these nodes keeps every rule, once it stands behind the table's own
pub record CanHold {F : Type 0} (meaning : F → ℕ → ℕ) (h : Held F) (pool : Contents) (records : List (Record F))
    : Type 0 where
  pub nodes : (id : ℕ) → length h.nodes ≤ id → id < length h.nodes + length records
      → IsGoodNode meaning (with_records h pool records) id
