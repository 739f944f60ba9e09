-- What each call of a store does.
use Rattle.std.specs.Prelude.{◌≡◌, ◌⊎◌, ℕ, ◌+◌, ◌<◌, ◌≤◌, List, ◌++◌, length, map, take, drop, get_or, Option, Result}
use Rattle.std.specs.List.{range_with_len}
use Rattle.leaf_buffer.specs.declared.block.TheConstants.{BLOCK_SIZE}
use Rattle.rope_node.specs.declared.limits.TheConstants.{TEXT_LIMIT}
use Rattle.rope_node.specs.declared.node.NodeId.{NodeId}
use Rattle.rope_node.specs.Table.{view_at, len_at, depth_at}
use Rattle.rope_node.specs.Denotes.{Cell, Byte, Place, cells, rope_cells, rope_len}
use Rattle.node_table.specs.declared.fault.NodeFault.{NodeFault}
use Rattle.node_table.specs.Held.{Held, table_of}
use Rattle.node_table.specs.Records.{part_record}
use Rattle.rope_store.specs.declared.endings.Ending.{Ending}
use Rattle.rope_store.specs.Additions.{Addition, Makes, bytes_added, function_added, source_added, one_node, concatenated, inner_part, node_part, part_added}
use Rattle.rope_store.specs.Joining.{joined, nodes_joined, ending_taking, piece, merged}
use Rattle.rope_store.specs.Appending.{grown_by, copied_behind, merged_after}
use Rattle.rope_store.specs.Refusals.{Refuses}

-- the call makes this addition, whose rope denotes the wanted cells, or it refuses where its span is bad or its text
-- too long
pub record Adds {F : Type 0} (meaning : F → ℕ → ℕ) (old : Held F) (a : Addition F) (wanted : List Cell)
    (IsBad IsLong : Type 0) (result : Result (Option NodeId) NodeFault) (new : Held F) : Type 0 where
  pub makes : Makes meaning old a wanted result new
  pub refuses : Refuses old a IsBad IsLong result

-- ---- texts of one leaf

-- the text of these bytes
abbrev pub MakesBytes : {F : Type 0} → (F → ℕ → ℕ) → Held F → List ℕ → Result (Option NodeId) NodeFault → Held F
    → Type 0
MakesBytes meaning old bytes result new =
    Adds meaning old (bytes_added (table_of meaning old) bytes) (map Byte bytes) ⊥
    (BLOCK_SIZE < length bytes) result new

-- the text of the function's bytes at 0 to n - 1
abbrev pub MakesFunction : {F : Type 0} → (F → ℕ → ℕ) → Held F → F → ℕ → Result (Option NodeId) NodeFault → Held F
    → Type 0
MakesFunction meaning old f n result new =
    Adds meaning old (function_added (table_of meaning old) f n) (map (λ k. Byte (meaning f k)) (range_with_len 0 n)) ⊥
    (TEXT_LIMIT ≤ n) result new

-- the n bytes of source s from a on, where that source has them
abbrev pub MakesSource : {F : Type 0} → (F → ℕ → ℕ) → Held F → ℕ → ℕ → ℕ → Result (Option NodeId) NodeFault → Held F
    → Type 0
MakesSource meaning old s a n result new =
    Adds meaning old (source_added (table_of meaning old) s a n) (map (Place s) (range_with_len a n))
    ((length old.sources ≤ s) ⊎ (get_or old.sources s 0 < a + n)) ⊥ result new

-- ---- texts put together

-- two ropes, one behind the other, whose literals may become one
abbrev pub Cats : {F : Type 0} → (F → ℕ → ℕ) → Held F → Option NodeId → Option NodeId → Result (Option NodeId) NodeFault
    → Held F → Type 0
Cats meaning old l r result new =
    let t = table_of meaning old in
    Adds meaning old (joined t l r) (rope_cells t l ++ rope_cells t r) ⊥
    (TEXT_LIMIT ≤ rope_len t l + rope_len t r) result new

-- two nodes, one behind the other, made so; with the whole text wanted
abbrev pub AddsBoth : {F : Type 0} → (F → ℕ → ℕ) → Held F → NodeId → NodeId → Addition F
    → Result (Option NodeId) NodeFault → Held F → Type 0
AddsBoth meaning old l r a result new =
    let t = table_of meaning old in
    Adds meaning old a (cells t l.0 ++ cells t r.0) ⊥ (TEXT_LIMIT ≤ len_at t l.0 + len_at t r.0) result new

-- two nodes under one
abbrev pub CatsPlain : {F : Type 0} → (F → ℕ → ℕ) → Held F → NodeId → NodeId → Result (Option NodeId) NodeFault → Held F
    → Type 0
CatsPlain meaning old l r result new = AddsBoth meaning old l r (concatenated (table_of meaning old) l r) result new

-- two nodes, whose literals may become one
abbrev pub Joins : {F : Type 0} → (F → ℕ → ℕ) → Held F → NodeId → NodeId → Result (Option NodeId) NodeFault → Held F
    → Type 0
Joins meaning old l r result new =
    let t = table_of meaning old in
    AddsBoth meaning old l r (nodes_joined t l r (ending_taking t l r)) result new

-- two nodes, the literal at the end of the first and the second as one
abbrev pub Merges : {F : Type 0} → (F → ℕ → ℕ) → Held F → NodeId → Ending → NodeId → Result (Option NodeId) NodeFault
    → Held F → Type 0
Merges meaning old l e r result new =
    let t = table_of meaning old in
    AddsBoth meaning old l r (merged t e.before (piece t e.literal ++ piece t r)) result new

-- bytes as one literal behind what stands before them
abbrev pub PutsMerged : {F : Type 0} → (F → ℕ → ℕ) → Held F → Option NodeId → List ℕ → Result (Option NodeId) NodeFault
    → Held F → Type 0
PutsMerged meaning old before bytes result new =
    let t = table_of meaning old in
    Adds meaning old (merged t before bytes) (rope_cells t before ++ map Byte bytes) ⊥ ⊥ result new

-- ---- parts of texts

-- the bytes of a rope from i on, at most n
abbrev pub TakesPart : {F : Type 0} → (F → ℕ → ℕ) → Held F → Option NodeId → ℕ → ℕ → Result (Option NodeId) NodeFault
    → Held F → Type 0
TakesPart meaning old x i n result new =
    let t = table_of meaning old in
    Adds meaning old (part_added t x i n) (take n (drop i (rope_cells t x))) ⊥ ⊥ result new

-- the n bytes of a node from i on, made so
abbrev pub AddsPart : {F : Type 0} → (F → ℕ → ℕ) → Held F → NodeId → ℕ → ℕ → Addition F
    → Result (Option NodeId) NodeFault → Held F → Type 0
AddsPart meaning old x i n a result new =
    Adds meaning old a (take n (drop i (cells (table_of meaning old) x.0))) ⊥ ⊥ result new

abbrev pub TakesNodePart : {F : Type 0} → (F → ℕ → ℕ) → Held F → NodeId → ℕ → ℕ → Result (Option NodeId) NodeFault
    → Held F → Type 0
TakesNodePart meaning old x i n result new =
    AddsPart meaning old x i n (node_part (table_of meaning old) x i n) result new

-- some bytes and not all of them
abbrev pub TakesInnerPart : {F : Type 0} → (F → ℕ → ℕ) → Held F → NodeId → ℕ → ℕ → Result (Option NodeId) NodeFault
    → Held F → Type 0
TakesInnerPart meaning old x i n result new =
    let t = table_of meaning old in
    AddsPart meaning old x i n (inner_part t x i n (view_at t x.0)) result new

-- as a part over the node
abbrev pub TakesPartOver : {F : Type 0} → (F → ℕ → ℕ) → Held F → NodeId → ℕ → ℕ → Result (Option NodeId) NodeFault
    → Held F → Type 0
TakesPartOver meaning old b i n result new =
    let t = table_of meaning old in
    AddsPart meaning old b i n (one_node t (part_record b i n (1 + depth_at t b.0))) result new

-- ---- bytes put behind texts

-- the ending's literal grows in place by these bytes
abbrev pub GrowsEnding : {F : Type 0} → (F → ℕ → ℕ) → Held F → Ending → List ℕ → Result (Option NodeId) NodeFault
    → Held F → Type 0
GrowsEnding meaning old e bytes result new =
    let t = table_of meaning old in
    Adds meaning old (grown_by t e bytes)
    (rope_cells t e.before ++ map Byte (piece t e.literal ++ bytes)) ⊥ ⊥ result new

-- the node's text and these bytes, made so
abbrev pub AddsBytes : {F : Type 0} → (F → ℕ → ℕ) → Held F → NodeId → List ℕ → Addition F
    → Result (Option NodeId) NodeFault → Held F → Type 0
AddsBytes meaning old x bytes a result new =
    Adds meaning old a (cells (table_of meaning old) x.0 ++ map Byte bytes) ⊥ ⊥ result new

-- as a literal, which merges with the one that ends the node or not
abbrev pub Copies : {F : Type 0} → (F → ℕ → ℕ) → Held F → NodeId → List ℕ → Result (Option NodeId) NodeFault → Held F
    → Type 0
Copies meaning old x bytes result new =
    AddsBytes meaning old x bytes (copied_behind (table_of meaning old) x bytes) result new

-- as a literal, and then with the ending's bytes as one
abbrev pub MergesAfter : {F : Type 0} → (F → ℕ → ℕ) → Held F → NodeId → Ending → List ℕ
    → Result (Option NodeId) NodeFault → Held F → Type 0
MergesAfter meaning old x e bytes result new =
    let t = table_of meaning old in
    AddsBytes meaning old x bytes (merged_after t e.before bytes (piece t e.literal ++ bytes)) result new

-- the first bytes as a literal, and then the others as one behind what stands before it
pub record PutsAfter {F : Type 0} (meaning : F → ℕ → ℕ) (old : Held F) (before : Option NodeId) (first : ℕ)
    (all : List ℕ) (result : Result (Option NodeId) NodeFault) (new : Held F) : Type 0 where
  pub makes : (xs ys : List ℕ) → all ≡ xs ++ ys → length xs ≡ first
      → Makes meaning old (merged_after (table_of meaning old) before xs ys)
      (rope_cells (table_of meaning old) before ++ map Byte ys) result new
  pub refuses : (xs ys : List ℕ) → all ≡ xs ++ ys → length xs ≡ first
      → Refuses old (merged_after {F = F} (table_of meaning old) before xs ys) ⊥ ⊥ result
