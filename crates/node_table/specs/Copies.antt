-- What a table is that was made of another one, node for node.
use Rattle.std.specs.Prelude.{◌≡◌, ◌⊎◌, ℕ, ◌<◌, ◌≤◌, List, length, map, take, get_or, Option, Some, None}
use Rattle.function_leaf.specs.declared.coded.Coded.{Coded}
use Rattle.leaf_buffer.specs.Contents.{held_whole}
use Rattle.rope_node.specs.declared.node.NodeView.{NodeView}
use Rattle.rope_node.specs.declared.node.NodeView.TheVariants.{Lit, Src, Fun, Cat, Sub}
use Rattle.rope_node.specs.Table.{Table, view_at, len_at, depth_at}
use Rattle.node_table.specs.declared.node_table.TheConstants.{FEW_SOURCES}
use Rattle.node_table.specs.declared.record.Record.{Record}
use Rattle.node_table.specs.Held.{Held, node_of, function_of_record}

-- the function of a node, where it is a function's
abbrev pub function_in : Coded → NodeView → Option Coded
function_in f (Lit a) = None
function_in f (Src s a) = None
function_in f Fun = Some f
function_in f (Cat l r) = None
function_in f (Sub b i) = None

-- what a table of coded functions says of a node
abbrev pub copied_record : Table → (ℕ → Coded) → ℕ → Record Coded
copied_record t coded id = record {
  view = view_at t id;
  len = len_at t id;
  depth = depth_at t id;
  function = function_in (coded id) (view_at t id);
}

-- these are the first k nodes of a table of coded functions
pub record CopiesFirst (t : Table) (coded : ℕ → Coded) (k : ℕ) (records : List (Record Coded)) : Type 0 where
  pub inside : k ≤ length t.nodes
  pub nodes : map node_of records ≡ take k t.nodes
  pub functions : (id : ℕ) → id < k
      → get_or (map function_of_record records) id None ≡ function_in (coded id) (view_at t id)

-- what a table of coded functions has, as one that can be held
pub record IsCopyOf (t : Table) (coded : ℕ → Coded) (h : Held Coded) : Type 0 where
  pub nodes : h.nodes ≡ t.nodes
  pub functions : (id : ℕ) → id < length t.nodes → get_or h.functions id None ≡ function_in (coded id) (view_at t id)
  pub pool : h.pool ≡ held_whole t.pool
  pub sources : h.sources ≡ t.sources

-- a table that cannot be held without memory: it has a node, a byte in its pool, or more than few sources
abbrev pub TakesMemory : Table → Type 0
TakesMemory t = (0 < length t.nodes) ⊎ ((0 < length t.pool) ⊎ (FEW_SOURCES < length t.sources))
