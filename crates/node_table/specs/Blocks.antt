-- Items in blocks, one block behind the other.
use Rattle.std.specs.Prelude.{◌≡◌, ◌⊎◌, ℕ, ◌*◌, ◌-◌, ◌≤◌, List, [], ◌∷◌, ◌++◌, length}
use Rattle.node_table.specs.declared.block.TheConstants.{ITEMS_IN_BLOCK}

-- the items, and how many more there is room for
pub record BlockContents (T : Type 0) : Type 0 where
  pub items : List T
  pub room : ℕ

-- all items, in their order
abbrev pub all_items : {T : Type 0} → List (List T) → List T
all_items [] = []
all_items (b ∷ bs) = b ++ all_items bs

abbrev pub block_contents : {T : Type 0} → List (List T) → BlockContents T
block_contents blocks = record {
  items = all_items blocks;
  room = length blocks * ITEMS_IN_BLOCK - length (all_items blocks);
}

-- no block is over its size, and only behind full ones there stands an item
abbrev pub AreFilled : {T : Type 0} → List (List T) → Type 0
AreFilled [] = Unit {0}
AreFilled (b ∷ bs) =
    (length b ≤ ITEMS_IN_BLOCK) × ((length b ≡ ITEMS_IN_BLOCK) ⊎ (all_items bs ≡ [])) × AreFilled bs

-- these blocks hold so many items
pub record HasBlocks {T : Type 0} (blocks : List (List T)) (len : ℕ) : Type 0 where
  pub filled : AreFilled blocks
  pub count : length (all_items blocks) ≡ len
