-- What a call does that puts nodes or a source into a table: all of it, or nothing.
use Rattle.std.specs.Prelude.{◌≡◌, ◌↔◌, ◌⊎◌, ℕ, ◌+◌, ◌-◌, ◌<◌, ◌≤◌, List, ◌++◌, [], ◌∷◌, length, Option, Some, Result, OnOk, OnErr, IfOk, IfErr, IsErrOf}
use Rattle.leaf_buffer.specs.declared.pool.TheConstants.{POOL_LIMIT}
use Rattle.leaf_buffer.specs.Contents.{appended, extended}
use Rattle.rope_node.specs.declared.limits.TheConstants.{MOST_NODES, MOST_SOURCES, TEXT_LIMIT}
use Rattle.rope_node.specs.declared.node.NodeId.{NodeId}
use Rattle.rope_node.specs.Extends.{Extends}
use Rattle.node_table.specs.declared.node_table.TheConstants.{FEW_SOURCES}
use Rattle.node_table.specs.declared.record.Record.{Record}
use Rattle.node_table.specs.declared.fault.NodeFault.{NodeFault}
use Rattle.node_table.specs.declared.fault.NodeFault.TheVariants.{TooLong, TableFull, PoolFull, TooManySources, Memory}
use Rattle.node_table.specs.Held.{Held, IsKept, table_of, with_records}

-- the last of the nodes put behind the others
abbrev pub last_node : {F : Type 0} → Held F → List (Record F) → NodeId
last_node h records = record { 0 = length h.nodes + (length records - 1) }

-- these bytes stand at the pool's end and the nodes behind the others, of which the last is answered
pub record Puts {F : Type 0} (meaning : F → ℕ → ℕ) (old : Held F) (bytes : List ℕ) (records : List (Record F))
    (result : Result (Option NodeId) NodeFault) (new : Held F) : Type 0 where
  pub ok : OnOk result (new ≡ with_records old (appended old.pool bytes) records)
  pub rope : IfOk result (λ rope. rope ≡ Some (last_node old records))
  pub held : IsKept meaning new
  pub table_full : IsErrOf result TableFull ↔ (MOST_NODES < length old.nodes + length records)
  pub pool_full : IsErrOf result PoolFull
      ↔ ((length old.nodes + length records ≤ MOST_NODES) × (POOL_LIMIT ≤ length old.pool.bytes + length bytes))
  pub faults : IfErr result (λ e. (e ≡ TableFull) ⊎ ((e ≡ PoolFull) ⊎ (e ≡ Memory)))
  pub err : OnErr result (new ≡ old)

-- the same where the pool's last piece grows by these bytes
pub record PutsGrown {F : Type 0} (meaning : F → ℕ → ℕ) (old : Held F) (bytes : List ℕ) (records : List (Record F))
    (result : Result (Option NodeId) NodeFault) (new : Held F) : Type 0 where
  pub ok : OnOk result (new ≡ with_records old (extended old.pool bytes) records)
  pub rope : IfOk result (λ rope. rope ≡ Some (last_node old records))
  pub held : IsKept meaning new
  pub table_full : IsErrOf result TableFull ↔ (MOST_NODES < length old.nodes + length records)
  pub faults : IfErr result (λ e. (e ≡ TableFull) ⊎ (e ≡ Memory))
  pub err : OnErr result (new ≡ old)

-- a further source of this length, whose number is answered
pub record AddsSource {F : Type 0} (meaning : F → ℕ → ℕ) (old : Held F) (len : ℕ) (result : Result ℕ NodeFault)
    (new : Held F) : Type 0 where
  pub number : IfOk result (λ s. s ≡ length old.sources)
  pub ok : OnOk result (new ≡ record old { sources = old.sources ++ len ∷ [] })
  pub kept : Extends (table_of meaning old) (table_of meaning new)
  pub held : IsKept meaning new
  pub too_many : IsErrOf result TooManySources ↔ (length old.sources ≡ MOST_SOURCES)
  pub too_long : IsErrOf result TooLong ↔ ((length old.sources < MOST_SOURCES) × (TEXT_LIMIT ≤ len))
  pub memory : IsErrOf result Memory → FEW_SOURCES ≤ length old.sources
  pub faults : IfErr result (λ e. (e ≡ TooManySources) ⊎ ((e ≡ TooLong) ⊎ (e ≡ Memory)))
  pub err : OnErr result (new ≡ old)
