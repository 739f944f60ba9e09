-- Why a call adds nothing.
use Rattle.std.specs.Prelude.{◌↔◌, ℕ, ◌+◌, ◌<◌, ◌≤◌, max, List, [], ◌∷◌, length, Option, Result, IsErrOf}
use Rattle.leaf_buffer.specs.declared.pool.TheConstants.{POOL_LIMIT}
use Rattle.rope_node.specs.declared.limits.TheConstants.{MOST_DEPTH, MOST_NODES}
use Rattle.rope_node.specs.declared.node.NodeId.{NodeId}
use Rattle.node_table.specs.declared.record.Record.{Record}
use Rattle.node_table.specs.declared.fault.NodeFault.{NodeFault}
use Rattle.node_table.specs.declared.fault.NodeFault.TheVariants.{TooLong, TooDeep, TableFull, PoolFull, BadSpan, TooManySources, Memory}
use Rattle.node_table.specs.Held.{Held}
use Rattle.rope_store.specs.Additions.{Addition}

-- the greatest depth among nodes
abbrev pub deepest : {F : Type 0} → List (Record F) → ℕ
deepest [] = 0
deepest (r ∷ rs) = max r.depth (deepest rs)

abbrev pub IsTooDeep : {F : Type 0} → Addition F → Type 0
IsTooDeep a = MOST_DEPTH < deepest a.records

-- fewer numbers are free than there are nodes
abbrev pub IsTableFull : {F : Type 0} → Held F → Addition F → Type 0
IsTableFull h a = MOST_NODES < length h.nodes + length a.records

abbrev pub PassesPoolLimit : {F : Type 0} → Held F → Addition F → Type 0
PassesPoolLimit h a = POOL_LIMIT ≤ length h.pool.bytes + length a.bytes

-- each refusal comes exactly where its condition is the first that holds, and beside them there is want of memory
-- alone, which a call that makes no node has not; where the span is bad, and where the result is too long, is the
-- call's own
pub record Refuses {F : Type 0} (old : Held F) (a : Addition F) (IsBad IsLong : Type 0)
    (result : Result (Option NodeId) NodeFault) : Type 0 where
  pub bad_span : IsErrOf result BadSpan ↔ IsBad
  pub too_long : IsErrOf result TooLong ↔ ((¬ IsBad) × IsLong)
  pub too_deep : IsErrOf result TooDeep ↔ ((¬ IsBad) × (¬ IsLong) × IsTooDeep a)
  pub table_full : IsErrOf result TableFull ↔ ((¬ IsBad) × (¬ IsLong) × (¬ IsTooDeep a) × IsTableFull old a)
  pub pool_full : IsErrOf result PoolFull
      ↔ ((¬ IsBad) × (¬ IsLong) × (¬ IsTooDeep a) × (¬ IsTableFull old a) × PassesPoolLimit old a)
  pub no_other : ¬ IsErrOf result TooManySources
  pub memory : IsErrOf result Memory → 1 ≤ length a.records
