-- What a call does that balances the ropes handed in where they would make one that is too deep.
use Rattle.std.specs.Prelude.{◌≡◌, ◌↔◌, ◌⊎◌, ℕ, ◌+◌, ◌-◌, ◌*◌, ◌<◌, ◌≤◌, max, min, List, [], ◌∷◌, ◌++◌, map, length, slice_range, take, drop, Option, None, Some, Result, Ok, Err, IfOk, IfErr, IsErrOf}
use Rattle.leaf_buffer.specs.declared.pool.TheConstants.{POOL_LIMIT}
use Rattle.rope_node.specs.declared.limits.TheConstants.{MOST_NODES, TEXT_LIMIT}
use Rattle.rope_node.specs.declared.node.NodeId.{NodeId}
use Rattle.rope_node.specs.Table.{Table, len_at, view_at}
use Rattle.rope_node.specs.Denotes.{Cell, Byte, rope_cells, rope_depth, rope_len, IsRope}
use Rattle.node_table.specs.declared.fault.NodeFault.{NodeFault}
use Rattle.node_table.specs.declared.fault.NodeFault.TheVariants.{TooLong, TooDeep, TableFull, PoolFull, BadSpan, TooManySources}
use Rattle.node_table.specs.Held.{Held, table_of}
use Rattle.rope_store.specs.Additions.{Addition, Makes, part_added}
use Rattle.rope_node.specs.Extends.{Extends}
use Rattle.rope_store.specs.declared.endings.TheConstants.{MOST_MERGED}
use Rattle.rope_store.specs.Joining.{joined}
use Rattle.rope_store.specs.Appending.{Appends, AppendsTooLong, IsAppend}
use Rattle.rope_store.specs.Refusals.{Refuses, IsTooDeep}
use Rattle.rebalance.specs.declared.fault.BalanceFault.{BalanceFault}
use Rattle.rebalance.specs.declared.fault.BalanceFault.TheVariants.{TooManyPieces, Node}
use Rattle.rebalance.specs.Balancing.{IsLeftFull, IsRoughlyBalanced, Rebuilds}
use Rattle.rebalance.specs.Pieces.{kept_pieces, part_count, part_pieces, LiesInChild, RopeLeadsDown}
use Rattle.rebalance.specs.declared.pieces.TheConstants.{MOST_PIECES}
use Rattle.rebalance.specs.Steps.{Grows, IsStepFault}

-- a refusal of the store told as one of these calls
abbrev pub lifted : {A : Type 0} → Result A NodeFault → Result A BalanceFault
lifted (Ok a) = Ok a
lifted (Err e) = Err (Node e)

-- this is what the plain call does
pub record IsPlain {F : Type 0} (meaning : F → ℕ → ℕ) (old : Held F) (a : Addition F) (wanted : List Cell)
    (IsLong : Type 0) (result : Result (Option NodeId) BalanceFault) (new : Held F) : Type 0 where
  pub plain : Result (Option NodeId) NodeFault
  pub same : result ≡ lifted plain
  pub makes : Makes meaning old a wanted plain new
  pub refuses : Refuses old a ⊥ IsLong plain

-- What a call may add: two ropes of so many pieces are balanced, and the plain call adds so many nodes and bytes.
pub record Growth : Type 0 where
  pub left_pieces : ℕ
  pub right_pieces : ℕ
  pub nodes : ℕ
  pub bytes : ℕ

-- there are at most so many nodes then: two more for each piece, and those of the plain call
abbrev pub nodes_grown : {F : Type 0} → Held F → Growth → ℕ
nodes_grown old g = length old.nodes + (2 * g.left_pieces + 2 * g.right_pieces + g.nodes)

-- and at most so many bytes of the pool: 31 more for each piece, and those of the plain call
abbrev pub bytes_grown : {F : Type 0} → Held F → Growth → ℕ
bytes_grown old g = length old.pool.bytes + (MOST_MERGED * g.left_pieces + MOST_MERGED * g.right_pieces + g.bytes)

-- What is answered is a rope of the wanted text. Answered or refused, what was there is kept, and no more is new.
pub record GivesRope {F : Type 0} (meaning : F → ℕ → ℕ) (old : Held F) (wanted : List Cell) (most : Growth)
    (result : Result (Option NodeId) BalanceFault) (new : Held F) : Type 0 where
  pub is_rope : IfOk result (λ r. IsRope (table_of meaning new) r)
  pub text : IfOk result (λ r. rope_cells (table_of meaning new) r ≡ wanted)
  pub grows : Grows meaning old (nodes_grown old most) (bytes_grown old most) new

-- what may refuse such a call after which there are at most so many nodes and bytes
abbrev pub IsAnewFault : ℕ → ℕ → BalanceFault → Type 0
IsAnewFault nodes bytes TooManyPieces = Unit {0}
IsAnewFault nodes bytes (Node e) = IsStepFault nodes bytes e

-- what a refusal says of the store that is left, where one step wants at most the nodes and bytes of the plain call, or
-- a node and the bytes of a short literal
abbrev pub IsFullFor : {F : Type 0} → Growth → Held F → BalanceFault → Type 0
IsFullFor most new e = IsLeftFull new most.nodes (max MOST_MERGED most.bytes) e

-- the call once both ropes are balanced
pub record Anew {F : Type 0} (meaning : F → ℕ → ℕ) (old : Held F) (wanted : List Cell) (most : Growth)
    (result : Result (Option NodeId) BalanceFault) (new : Held F) : Type 0 where
  pub gives : GivesRope meaning old wanted most result new
  pub shallow : IfOk result (λ r. IsRoughlyBalanced (table_of meaning new) r)
  pub too_many : IsErrOf result TooManyPieces ↔ ((MOST_PIECES < most.left_pieces) ⊎ (MOST_PIECES < most.right_pieces))
  pub unchanged : IsErrOf result TooManyPieces → new ≡ old
  pub fault : IfErr result (IsAnewFault (nodes_grown old most) (bytes_grown old most))
  pub full : IfErr result (IsFullFor most new)

-- the call where the plain one makes addition a
pub record AnyForm {F : Type 0} (meaning : F → ℕ → ℕ) (old : Held F) (a : Addition F) (wanted : List Cell)
    (IsLong : Type 0) (most : Growth) (result : Result (Option NodeId) BalanceFault) (new : Held F) : Type 0 where
  pub gives : GivesRope meaning old wanted most result new
  pub as_plain : (¬ IsTooDeep a) ⊎ IsLong → IsPlain meaning old a wanted IsLong result new
  pub anew : IsTooDeep a → ¬ IsLong → Anew meaning old wanted most result new
  pub too_long : IsErrOf result (Node TooLong) ↔ IsLong
  pub too_many : IsErrOf result TooManyPieces → IsTooDeep a × (¬ IsLong)
  pub table_full : IsErrOf result (Node TableFull) → MOST_NODES < nodes_grown old most
  pub pool_full : IsErrOf result (Node PoolFull) → POOL_LIMIT ≤ bytes_grown old most
  pub full : IfErr result (IsFullFor most new)
  pub not_deep : ¬ IsErrOf result (Node TooDeep)
  pub no_bad_span : ¬ IsErrOf result (Node BadSpan)
  pub no_source : ¬ IsErrOf result (Node TooManySources)

-- ---- two ropes, one behind the other

-- what joining two ropes may add
abbrev pub cat_growth : Table → Option NodeId → Option NodeId → Growth
cat_growth t l r = record { left_pieces = kept_pieces t l; right_pieces = kept_pieces t r; nodes = 2; bytes = MOST_MERGED }

-- what the call for l followed by r does, also where the node over both would be too deep
abbrev pub CatsAny : {F : Type 0} → (F → ℕ → ℕ) → Held F → Option NodeId → Option NodeId
    → Result (Option NodeId) BalanceFault → Held F → Type 0
CatsAny meaning old l r result new =
    let t = table_of meaning old in
    AnyForm meaning old (joined t l r) (rope_cells t l ++ rope_cells t r) (TEXT_LIMIT ≤ rope_len t l + rope_len t r)
    (cat_growth t l r) result new

-- the same once both are balanced
abbrev pub CatsAnew : {F : Type 0} → (F → ℕ → ℕ) → Held F → Option NodeId → Option NodeId
    → Result (Option NodeId) BalanceFault → Held F → Type 0
CatsAnew meaning old l r result new =
    let t = table_of meaning old in
    Anew meaning old (rope_cells t l ++ rope_cells t r) (cat_growth t l r) result new

-- ---- a part of a rope

-- bytes of a rope, at most n from i on, that are there, are not all of it and lie in one child
abbrev pub LiesLower : Table → Option NodeId → ℕ → ℕ → Type 0
LiesLower t None i n = ⊥
LiesLower t (Some id) i n =
    let m = min n (len_at t id.0 - i) in (1 ≤ m) × (m < len_at t id.0) × LiesInChild t i m (view_at t id.0)

-- The n bytes of a rope from i on are those of inner from start on, the lowest node that has all of them: the rope
-- itself where no child holds them, and else a less deep one.
pub record IsLowest (t : Table) (x : Option NodeId) (i n : ℕ) (inner : Option NodeId) (start : ℕ) : Type 0 where
  pub there : IsRope t inner
  pub leads : RopeLeadsDown t n inner start x i
  pub lowest : ¬ LiesLower t inner start n
  pub here : ¬ LiesLower t x i n → (inner ≡ x) × (start ≡ i)
  pub below : LiesLower t x i n → rope_depth t inner < rope_depth t x
  pub no_deeper : rope_depth t inner ≤ rope_depth t x
  pub cells : take n (drop start (rope_cells t inner)) ≡ take n (drop i (rope_cells t x))

-- what a part may add
abbrev pub part_growth : ℕ → Growth
part_growth pieces = record { left_pieces = pieces; right_pieces = 0; nodes = 1; bytes = 0 }

-- The plain call takes the wanted bytes of the lowest node that has all of them. Where that part is too deep they are
-- put together alone.
pub record PartsAny {F : Type 0} (meaning : F → ℕ → ℕ) (old : Held F) (x : Option NodeId) (i n : ℕ)
    (result : Result (Option NodeId) BalanceFault) (new : Held F) : Type 0 where
  pub inner : Option NodeId
  pub start : ℕ
  pub is_lowest : IsLowest (table_of meaning old) x i (part_count (table_of meaning old) x i n) inner start
  pub any : AnyForm meaning old
      (part_added (table_of meaning old) inner start (part_count (table_of meaning old) x i n))
      (take n (drop i (rope_cells (table_of meaning old) x))) ⊥
      (part_growth (part_pieces (table_of meaning old) x i n)) result new
  pub rebuilt : IsTooDeep {F = F} (part_added (table_of meaning old) inner start
      (part_count (table_of meaning old) x i n))
      → Rebuilds meaning old (take n (drop i (rope_cells (table_of meaning old) x)))
      (part_pieces (table_of meaning old) x i n) result new

-- ---- bytes put behind a rope

-- the rope alone
abbrev pub ropes_of : Result (Option NodeId × ℕ) BalanceFault → Result (Option NodeId) BalanceFault
ropes_of (Ok p) = Ok p.0
ropes_of (Err e) = Err e

-- what it may add to put n bytes behind a rope
abbrev pub append_growth : Table → Option NodeId → ℕ → Growth
append_growth t x n = record { left_pieces = kept_pieces t x; right_pieces = 0; nodes = 3; bytes = n + MOST_MERGED }

-- bytes put behind a rope once it is balanced
abbrev pub AppendsAnew : {F : Type 0} → (F → ℕ → ℕ) → Held F → Option NodeId → List ℕ
    → Result (Option NodeId) BalanceFault → Held F → Type 0
AppendsAnew meaning old x bytes result new =
    let t = table_of meaning old in
    Anew meaning old (rope_cells t x ++ map Byte bytes) (append_growth t x (length bytes)) result new

-- the place that bytes get in a pool: its end, and 0 for none of them
abbrev pub place_in_pool : List ℕ → List ℕ → ℕ
place_in_pool pool [] = 0
place_in_pool pool (b ∷ bs) = length pool

-- the bytes stand in the pool from this place on
abbrev pub StandInPool : List ℕ → ℕ → List ℕ → Type 0
StandInPool pool place bytes = slice_range pool place (place + length bytes) ≡ bytes

-- the plain call put the bytes behind a rope of a table that went on from the old one, and their place is where its
-- pool ended then
pub record IsPut {F : Type 0} (meaning : F → ℕ → ℕ) (old : Held F) (bytes : List ℕ) (p : Option NodeId × ℕ)
    (new : Held F) : Type 0 where
  pub before : Held F
  pub behind : Option NodeId
  pub kept : Extends (table_of meaning old) (table_of meaning before)
  pub appends : Appends meaning before behind bytes (Ok p.0) new
  pub place : p.1 ≡ place_in_pool before.pool.bytes bytes
  pub stands : StandInPool new.pool.bytes p.1 bytes

-- that table is the old one, unless the plain call refuses there as too deep
pub record IsPlaced {F : Type 0} (meaning : F → ℕ → ℕ) (old : Held F) (x : Option NodeId) (bytes : List ℕ)
    (p : Option NodeId × ℕ) (new : Held F) : Type 0 where
  pub put : IsPut meaning old bytes p new
  pub at_once : ¬ Appends meaning old x bytes (Err TooDeep) old → (put.before ≡ old) × (put.behind ≡ x)

-- what the plain call adds, and what this one does
pub record AppendsAny {F : Type 0} (meaning : F → ℕ → ℕ) (old : Held F) (x : Option NodeId) (bytes : List ℕ)
    (result : Result (Option NodeId) BalanceFault) (new : Held F) : Type 0 where
  pub addition : Addition F
  pub is : ¬ AppendsTooLong (table_of meaning old) x bytes → IsAppend old.pool (table_of meaning old) x bytes addition
  pub any : AnyForm meaning old addition (rope_cells (table_of meaning old) x ++ map Byte bytes)
      (AppendsTooLong (table_of meaning old) x bytes) (append_growth (table_of meaning old) x (length bytes)) result new
