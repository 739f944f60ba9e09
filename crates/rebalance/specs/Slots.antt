-- Slots for ropes, from left to right in a text as their numbers fall.
use Rattle.std.specs.Prelude.{◌≡◌, ◌⊎◌, ℕ, ◌+◌, ◌<◌, ◌≤◌, max, List, [], ◌∷◌, ◌++◌, length, get_or, Option, Some, None}
use Rattle.rope_node.specs.declared.node.NodeId.{NodeId}
use Rattle.rope_node.specs.Balance.{fibonacci, IsBalanced}
use Rattle.rope_node.specs.Table.{Table, len_at, depth_at}
use Rattle.rope_node.specs.Denotes.{Cell, rope_cells, rope_len, rope_depth, IsRope}
use Rattle.node_table.specs.Held.{Held, table_of}
use Rattle.rebalance.specs.declared.slots.TheConstants.{SLOTS}

-- how many ropes this is
abbrev pub ropes_in : Option NodeId → ℕ
ropes_in None = 0
ropes_in (Some id) = 1

abbrev pub full_slots : List (Option NodeId) → ℕ
full_slots [] = 0
full_slots (s ∷ rest) = ropes_in s + full_slots rest

-- the cells of the slots, of the highest number first
abbrev pub slots_cells : Table → List (Option NodeId) → List Cell
slots_cells t [] = []
slots_cells t (s ∷ rest) = slots_cells t rest ++ rope_cells t s

-- what may stand in slot m
abbrev pub IsSlot : Table → ℕ → Option NodeId → Type 0
IsSlot t m None = Unit {0}
IsSlot t m (Some id) = (id.0 < length t.nodes) × (depth_at t id.0 + 2 ≤ m) × (fibonacci m ≤ len_at t id.0)

pub record AreSlots (t : Table) (slots : List (Option NodeId)) : Type 0 where
  pub size : length slots ≡ SLOTS
  pub each : (m : ℕ) → IsSlot t m (get_or slots m None)

abbrev pub AreEmptyBelow : ℕ → List (Option NodeId) → Type 0
AreEmptyBelow m slots = (i : ℕ) → i < m → get_or slots i None ≡ None

-- what the slots below m join to
abbrev pub IsGathered : Table → ℕ → Option NodeId → Type 0
IsGathered t m None = Unit {0}
IsGathered t m (Some id) = (depth_at t id.0 + 2 ≤ m) × (fibonacci (depth_at t id.0 + 1) ≤ len_at t id.0)

-- what may look for its slot from m on
pub record IsCarried (t : Table) (m : ℕ) (rope : Option NodeId) : Type 0 where
  pub some : 2 ≤ m
  pub shallow : rope_depth t rope + 1 ≤ m
  pub long : fibonacci m ≤ rope_len t rope
  pub balanced : IsBalanced (rope_len t rope) (rope_depth t rope)

-- a leaf, or a rope whose length is at least the Fibonacci number at its depth and three
pub record IsShallowPiece (t : Table) (rope : Option NodeId) : Type 0 where
  pub there : IsRope t rope
  pub some : 1 ≤ rope_len t rope
  pub shallow : (rope_depth t rope ≡ 0) ⊎ (fibonacci (rope_depth t rope + 3) ≤ rope_len t rope)

-- the depth and the length of two ropes put together
abbrev pub joined_depth : Table → Option NodeId → Option NodeId → ℕ
joined_depth t None r = rope_depth t r
joined_depth t (Some l) None = depth_at t l.0
joined_depth t (Some l) (Some r) = 1 + max (depth_at t l.0) (depth_at t r.0)

abbrev pub joined_len : Table → Option NodeId → Option NodeId → ℕ
joined_len t l r = rope_len t l + rope_len t r

-- two ropes put together
pub record IsJoin {F : Type 0} (meaning : F → ℕ → ℕ) (old : Held F) (l r rope : Option NodeId) (new : Held F)
    : Type 0 where
  pub is_rope : IsRope (table_of meaning new) rope
  pub text : rope_cells (table_of meaning new) rope
      ≡ rope_cells (table_of meaning old) l ++ rope_cells (table_of meaning old) r
  pub len : rope_len (table_of meaning new) rope ≡ joined_len (table_of meaning old) l r
  pub depth : rope_depth (table_of meaning new) rope ≡ joined_depth (table_of meaning old) l r
  pub nodes : length new.nodes + ropes_in rope ≡ length old.nodes + (ropes_in l + ropes_in r)

-- the slots from m on, and then the rope, are this text; the nodes and the ropes are together at most so many
pub record IsSpread (t : Table) (most : ℕ) (text : List Cell) (m : ℕ) (slots : List (Option NodeId))
    (rope : Option NodeId) : Type 0 where
  pub are : AreSlots t slots
  pub empty : AreEmptyBelow m slots
  pub is_rope : IsRope t rope
  pub whole : slots_cells t slots ++ rope_cells t rope ≡ text
  pub nodes : length t.nodes + (full_slots slots + ropes_in rope) ≤ most

-- the text of the slots, and then of the rope
abbrev pub cells_with : Table → List (Option NodeId) → Option NodeId → List Cell
cells_with t slots rope = slots_cells t slots ++ rope_cells t rope

-- the slots from m on, and then the rope, are this text once a step is done that adds at most n nodes for the slots and
-- the rope
abbrev pub Spreads : {F : Type 0} → (F → ℕ → ℕ) → Held F → ℕ → List Cell → ℕ → List (Option NodeId) → Held F
    → Option NodeId → Type 0
Spreads meaning old n text m slots new rope = IsSpread (table_of meaning new) (length old.nodes + n) text m slots rope

-- the slots hold their text and then the rope's, and at most a node more for each of them
abbrev pub Settles : {F : Type 0} → (F → ℕ → ℕ) → Held F → List (Option NodeId) → Option NodeId → List (Option NodeId)
    → Held F → Type 0
Settles meaning old slots carried after new =
    Spreads meaning old (full_slots slots + ropes_in carried)
    (cells_with (table_of meaning old) slots carried) 0 after new None

abbrev pub Inserts : {F : Type 0} → (F → ℕ → ℕ) → Held F → List (Option NodeId) → Option NodeId → List (Option NodeId)
    → Held F → Type 0
Inserts meaning old slots piece after new =
    Spreads meaning old (full_slots slots + 1) (cells_with (table_of meaning old) slots piece) 0 after new None

-- the slots below m are joined to the rope, and the others and it hold the text of all
abbrev pub Gathers : {F : Type 0} → (F → ℕ → ℕ) → Held F → List (Option NodeId) → ℕ → List (Option NodeId) → Held F
    → Option NodeId → Type 0
Gathers meaning old slots m after new rope =
    Spreads meaning old (full_slots slots) (slots_cells (table_of meaning old) slots) m after new rope
