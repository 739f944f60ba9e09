-- What putting a rope together anew does.
use Rattle.std.specs.Prelude.{◌≡◌, ◌↔◌, ℕ, ◌+◌, ◌*◌, ◌<◌, ◌≤◌, Bool, List, ◌++◌, length, take, drop, Option, Some, None, Result, IfOk, IfErr, IsErrOf}
use Rattle.rope_store.specs.declared.endings.TheConstants.{MOST_MERGED}
use Rattle.leaf_buffer.specs.declared.pool.TheConstants.{POOL_LIMIT}
use Rattle.rope_node.specs.declared.limits.TheConstants.{MOST_NODES}
use Rattle.rope_node.specs.declared.node.NodeId.{NodeId}
use Rattle.rope_node.specs.Balance.{fibonacci}
use Rattle.rope_node.specs.Table.{Table, len_at, depth_at}
use Rattle.rope_node.specs.Denotes.{Cell, cells, rope_cells, rope_depth, rope_len, IsRope}
use Rattle.rope_node.specs.Extends.{Extends}
use Rattle.node_table.specs.declared.fault.NodeFault.TheVariants.{TooLong, TooDeep, TableFull, PoolFull, BadSpan, TooManySources}
use Rattle.node_table.specs.Held.{Held, table_of, KeepsFunctions}
use Rattle.rebalance.specs.declared.fault.BalanceFault.{BalanceFault}
use Rattle.rebalance.specs.declared.fault.BalanceFault.TheVariants.{TooManyPieces, Node}
use Rattle.rope_node.specs.declared.node.Span.{Span}
use Rattle.rebalance.specs.Steps.{AddsPieces, IsFullAt, Steps}
use Rattle.rebalance.specs.Slots.{full_slots, slots_cells, Spreads}
use Rattle.node_table.specs.declared.fault.NodeFault.{NodeFault}
use Rattle.rebalance.specs.Pieces.{all_pieces, cells_in_span, piece_count, rope_pieces, span_pieces}
use Rattle.rebalance.specs.declared.pieces.TheConstants.{MOST_PIECES}

-- nil, or a rope at least as long as the Fibonacci number of its depth and one: that of a balanced rope is the next
abbrev pub IsNearlyBalanced : Table → Option NodeId → Type 0
IsNearlyBalanced t None = Unit {0}
IsNearlyBalanced t (Some id) = fibonacci (depth_at t id.0 + 1) ≤ len_at t id.0

-- a rope at least as long as the Fibonacci number of its depth: that of a balanced rope is the next but one
abbrev pub IsRoughlyBalanced : Table → Option NodeId → Type 0
IsRoughlyBalanced t rope = fibonacci (rope_depth t rope) ≤ rope_len t rope

-- the same of a refusal to balance; that there are too many pieces says nothing of the store
abbrev pub IsLeftFull : {F : Type 0} → Held F → ℕ → ℕ → BalanceFault → Type 0
IsLeftFull h nodes bytes TooManyPieces = Unit {0}
IsLeftFull h nodes bytes (Node e) = IsFullAt h nodes bytes e

-- a shallow rope of this text is answered, put together from p pieces, or why there is none; what was there is kept
pub record Rebuilds {F : Type 0} (meaning : F → ℕ → ℕ) (old : Held F) (wanted : List Cell) (p : ℕ)
    (result : Result (Option NodeId) BalanceFault) (new : Held F) : Type 0 where
  pub is_rope : IfOk result (λ r. IsRope (table_of meaning new) r)
  pub text : IfOk result (λ r. rope_cells (table_of meaning new) r ≡ wanted)
  pub shallow : IfOk result (λ r. IsNearlyBalanced (table_of meaning new) r)
  pub kept : Extends (table_of meaning old) (table_of meaning new)
  pub sources : new.sources ≡ old.sources
  pub functions : KeepsFunctions old new
  pub few_nodes : length new.nodes ≤ length old.nodes + 2 * p
  pub few_bytes : length new.pool.bytes ≤ length old.pool.bytes + MOST_MERGED * p
  pub too_many : IsErrOf result TooManyPieces ↔ (MOST_PIECES < p)
  pub unchanged : IsErrOf result TooManyPieces → new ≡ old
  pub table_full : IsErrOf result (Node TableFull) → MOST_NODES < length old.nodes + 2 * p
  pub pool_full : IsErrOf result (Node PoolFull) → POOL_LIMIT ≤ length old.pool.bytes + MOST_MERGED * p
  pub full : IfErr result (IsLeftFull new 1 MOST_MERGED)
  pub not_long : ¬ IsErrOf result (Node TooLong)
  pub not_deep : ¬ IsErrOf result (Node TooDeep)
  pub no_bad_span : ¬ IsErrOf result (Node BadSpan)
  pub no_source : ¬ IsErrOf result (Node TooManySources)

-- the rope is so many bytes of a node from start on
abbrev pub IsPartOfNode : {F : Type 0} → (F → ℕ → ℕ) → Held F → NodeId → ℕ → ℕ → Held F → Option NodeId → Type 0
IsPartOfNode meaning old node start len new rope =
    rope_cells (table_of meaning new) rope ≡ take len (drop start (cells (table_of meaning old) node.0))

-- a step that goes through the pieces of these bytes
abbrev pub StepsThrough : {F : Type 0} {A : Type 0} → (F → ℕ → ℕ) → Held F → Bool → NodeId → ℕ → ℕ → Result A NodeFault
    → Held F → Type 0
StepsThrough meaning old keep node start len result new =
    AddsPieces meaning old (piece_count keep (table_of meaning old) node.0 start len) result new

-- the text of the slots, and then of a span
abbrev pub text_with : Table → List (Option NodeId) → Span → List Cell
text_with t slots span = slots_cells t slots ++ cells_in_span t span

-- a step that puts a text of p pieces behind that of the slots
pub record Fills {F : Type 0} {A : Type 0} (meaning : F → ℕ → ℕ) (old : Held F) (slots : List (Option NodeId)) (p : ℕ)
    (text : List Cell) (result : Result A NodeFault) (after : List (Option NodeId)) (new : Held F) : Type 0 where
  pub steps : Steps meaning old (length old.nodes + (full_slots slots + 2 * p))
      (length old.pool.bytes + MOST_MERGED * p) result new
  pub spread : IfOk result (λ _. Spreads meaning old (full_slots slots + 2 * p)
      (slots_cells (table_of meaning old) slots ++ text) 0 after new None)

-- and so for a span and its pieces
abbrev pub FillsSpan : {F : Type 0} {A : Type 0} → (F → ℕ → ℕ) → Held F → Bool → List (Option NodeId) → Span
    → Result A NodeFault → List (Option NodeId) → Held F → Type 0
FillsSpan meaning old keep slots span result after new =
    let t = table_of meaning old in
    Fills meaning old slots (span_pieces keep t span) (cells_in_span t span) result after new

-- all of a rope is put together from its pieces
abbrev pub RebuildsRope : {F : Type 0} → (F → ℕ → ℕ) → Held F → Bool → Option NodeId
    → Result (Option NodeId) BalanceFault → Held F → Type 0
RebuildsRope meaning old keep rope result new =
    let t = table_of meaning old in
    Rebuilds meaning old (rope_cells t rope) (all_pieces keep t rope) result new

-- so many bytes of a node from start on are
abbrev pub RebuildsPart : {F : Type 0} → (F → ℕ → ℕ) → Held F → Bool → NodeId → ℕ → ℕ
    → Result (Option NodeId) BalanceFault → Held F → Type 0
RebuildsPart meaning old keep node start len result new =
    let t = table_of meaning old in
    Rebuilds meaning old (take len (drop start (cells t node.0))) (piece_count keep t node.0 start len) result new

-- a rope put together from its leaf spans
abbrev pub Rebalances : {F : Type 0} → (F → ℕ → ℕ) → Held F → Option NodeId → Result (Option NodeId) BalanceFault
    → Held F → Type 0
Rebalances meaning old rope result new =
    Rebuilds meaning old (rope_cells (table_of meaning old) rope) (rope_pieces (table_of meaning old) rope) result new
