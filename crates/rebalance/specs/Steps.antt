-- What each step of balancing keeps to.
use Rattle.std.specs.Prelude.{◌≡◌, ℕ, ◌+◌, ◌*◌, ◌<◌, ◌≤◌, length, Result, IfErr}
use Rattle.rope_store.specs.declared.endings.TheConstants.{MOST_MERGED}
use Rattle.leaf_buffer.specs.declared.pool.TheConstants.{POOL_LIMIT}
use Rattle.rope_node.specs.declared.limits.TheConstants.{MOST_NODES}
use Rattle.rope_node.specs.Extends.{Extends}
use Rattle.node_table.specs.declared.fault.NodeFault.{NodeFault}
use Rattle.node_table.specs.declared.fault.NodeFault.TheVariants.{TooLong, TooDeep, TableFull, PoolFull, BadSpan, TooManySources, Memory}
use Rattle.node_table.specs.Held.{Held, table_of, KeepsFunctions}

-- what may refuse a step after which there are at most so many nodes and bytes
abbrev pub IsStepFault : ℕ → ℕ → NodeFault → Type 0
IsStepFault nodes bytes TooLong = ⊥
IsStepFault nodes bytes TooDeep = ⊥
IsStepFault nodes bytes TableFull = MOST_NODES < nodes
IsStepFault nodes bytes PoolFull = POOL_LIMIT ≤ bytes
IsStepFault nodes bytes BadSpan = ⊥
IsStepFault nodes bytes TooManySources = ⊥
IsStepFault nodes bytes Memory = Unit {0}

-- what a refusal says of the store that is left, where one step wants at most so many nodes and bytes: a full table,
-- that fewer numbers are free; a full pool, that a number is free and such bytes reach the limit; memory, that one is
abbrev pub IsFullAt : {F : Type 0} → Held F → ℕ → ℕ → NodeFault → Type 0
IsFullAt h nodes bytes TooLong = Unit {0}
IsFullAt h nodes bytes TooDeep = Unit {0}
IsFullAt h nodes bytes TableFull = MOST_NODES < length h.nodes + nodes
IsFullAt h nodes bytes PoolFull = (length h.nodes < MOST_NODES) × (POOL_LIMIT ≤ length h.pool.bytes + bytes)
IsFullAt h nodes bytes BadSpan = Unit {0}
IsFullAt h nodes bytes TooManySources = Unit {0}
IsFullAt h nodes bytes Memory = length h.nodes < MOST_NODES

-- what was there is kept, and there are at most so many nodes and bytes
pub record Grows {F : Type 0} (meaning : F → ℕ → ℕ) (old : Held F) (nodes bytes : ℕ) (new : Held F) : Type 0 where
  pub kept : Extends (table_of meaning old) (table_of meaning new)
  pub sources : new.sources ≡ old.sources
  pub functions : KeepsFunctions old new
  pub few_nodes : length new.nodes ≤ nodes
  pub few_bytes : length new.pool.bytes ≤ bytes

-- what was there is kept, and there are at most so many nodes and bytes; what is refused wants one node, and the bytes
-- of a short literal at most
pub record Steps {F : Type 0} {A : Type 0} (meaning : F → ℕ → ℕ) (old : Held F) (nodes bytes : ℕ)
    (result : Result A NodeFault) (new : Held F) : Type 0 where
  pub grows : Grows meaning old nodes bytes new
  pub fault : IfErr result (IsStepFault nodes bytes)
  pub full : IfErr result (IsFullAt new 1 MOST_MERGED)

-- a step after which there are at most so many more nodes, and no byte more
abbrev pub AddsNodes : {F : Type 0} {A : Type 0} → (F → ℕ → ℕ) → Held F → ℕ → Result A NodeFault → Held F → Type 0
AddsNodes meaning old n result new = Steps meaning old (length old.nodes + n) (length old.pool.bytes) result new

-- a step that makes one piece: at most a node, and the bytes of a short literal
abbrev pub AddsPiece : {F : Type 0} {A : Type 0} → (F → ℕ → ℕ) → Held F → Result A NodeFault → Held F → Type 0
AddsPiece meaning old result new =
    Steps meaning old (length old.nodes + 1) (length old.pool.bytes + MOST_MERGED) result new

-- a step that goes through p pieces
abbrev pub AddsPieces : {F : Type 0} {A : Type 0} → (F → ℕ → ℕ) → Held F → ℕ → Result A NodeFault → Held F → Type 0
AddsPieces meaning old p result new =
    Steps meaning old (length old.nodes + 2 * p) (length old.pool.bytes + MOST_MERGED * p) result new
