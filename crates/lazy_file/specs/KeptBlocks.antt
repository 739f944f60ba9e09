-- Blocks of devices that are kept, and what a read makes of them.
use Rattle.std.specs.Prelude.{◌≡◌, ◌<◌, ◌≤◌, ℕ, zero, suc, ◌+◌, ◌-◌, ◌*◌, ◌/◌, ◌%◌, min, max, nat_eq, ◌⊎◌, Bool, ◌&&◌, not, IsTrue, List, ◌∷◌, Vec, Contains, drop, filter, get_or, length, take, Result, OnErr, OnOk}
use Rattle.std.specs.List.{IsDistinct}
use Rattle.std.specs.Map.{keys_of}
use Rattle.lazy_file.specs.DeviceTexts.{AreSourceBytes, DeviceText, no_device}
use Rattle.lazy_file.specs.declared.kept_blocks.TheConstants.{BLOCK_SIZE}

-- kept blocks, each under its source's number and its own
abbrev pub Kept : Type 0 → Type 0
Kept A = List ((ℕ × ℕ) × Vec ℕ A)

-- the block under this key holds bytes of its source, from its place on, all that a block takes or that there are
pub record IsBlockOf (ds : List DeviceText) (key : ℕ × ℕ) (block : List ℕ) : Type 0 where
  pub there : key.0 < length ds
  pub bytes : AreSourceBytes ds key.0 (key.1 * BLOCK_SIZE) block
  pub whole : length block ≡ min BLOCK_SIZE ((get_or ds key.0 no_device).size - key.1 * BLOCK_SIZE)

-- each kept block is one of these sources
abbrev pub AreKept : {A : Type 0} → List DeviceText → Kept A → Type 0
AreKept {A} ds kept = (key : ℕ × ℕ) (block : Vec ℕ A) → Contains kept (key, block) → IsBlockOf ds key block.items

-- a block is kept under this key
abbrev pub KeepsBlock : {A : Type 0} → Kept A → ℕ × ℕ → Type 0
KeepsBlock kept key = Contains (keys_of kept) key

-- a part was copied out of the block under this key, from its place `from` on, if such a block is kept and is long
-- enough; no block is new, and each stays
pub record CopiesKept {A : Type 0} (old new : Kept A) (key : ℕ × ℕ) (from : ℕ) (part : List ℕ) (copied : Bool)
    : Type 0 where
  pub found : IsTrue copied → (block : Vec ℕ A) × Contains old (key, block)
      × (part ≡ take (length part) (drop from block.items))
  pub copied_if : KeepsBlock old key
      → ((block : Vec ℕ A) → Contains old (key, block) → from + length part ≤ length block.items) → IsTrue copied
  pub kept : (key : ℕ × ℕ) (block : Vec ℕ A) → Contains new (key, block) → Contains old (key, block)
  pub stays : (other : ℕ × ℕ) → KeepsBlock old other → KeepsBlock new other

-- no block but this one is new
abbrev pub KeepsOne : {A : Type 0} → Kept A → Kept A → ℕ × ℕ → Vec ℕ A → Type 0
KeepsOne {A} old new key block =
    (other : ℕ × ℕ) (bytes : Vec ℕ A) → Contains new (other, bytes)
    → Contains old (other, bytes) ⊎ ((other ≡ key) × (bytes ≡ block))

-- what reading one block leaves of the devices and of what is kept: nothing is read where it is kept, and the others
-- stay
pub record ReadsBlock {A D : Type 0} (before after : List D) (old new : Kept A) (key : ℕ × ℕ) : Type 0 where
  pub unread : KeepsBlock old key → after ≡ before
  pub stays : KeepsBlock old key → (other : ℕ × ℕ) → KeepsBlock old other → KeepsBlock new other

-- the block of each of n places of source s from off on is among these keys
abbrev pub AreKeptFor : List (ℕ × ℕ) → ℕ → ℕ → ℕ → Type 0
AreKeptFor keys s off n = (p : ℕ) → off ≤ p → p < off + n → Contains keys (s, p / BLOCK_SIZE)

-- the block of the last of n places of source s from off on
abbrev pub last_block : ℕ → ℕ → ℕ → ℕ × ℕ
last_block s off n = (s, (off + n - 1) / BLOCK_SIZE)

-- whether two keys are of the same block
abbrev pub is_same_block : ℕ × ℕ → ℕ × ℕ → Bool
is_same_block x y = nat_eq x.0 y.0 && nat_eq x.1 y.1

-- these blocks, but for that one
abbrev pub but_block : ℕ × ℕ → List (ℕ × ℕ) → List (ℕ × ℕ)
but_block key keys = filter (λ k. not (is_same_block key k)) keys

-- the blocks that are kept, the last used first, once this one is used: it goes to the front, and the one that was used
-- longest ago goes where there are more than most
abbrev pub used_block : ℕ → List (ℕ × ℕ) → ℕ × ℕ → List (ℕ × ℕ)
used_block most keys key = take most (key ∷ but_block key keys)

-- and once the block of each of n places of source s from off on is used, in turn
abbrev pub used_for : ℕ → List (ℕ × ℕ) → ℕ → ℕ → ℕ → List (ℕ × ℕ)
used_for most keys s off zero = keys
used_for most keys s off (suc n) = used_block most (used_for most keys s off n) (s, (off + n) / BLOCK_SIZE)

-- different blocks, of which there may be one and no more than most
pub record AreWithin (most : ℕ) (keys : List (ℕ × ℕ)) : Type 0 where
  pub some : 0 < most
  pub fit : length keys ≤ most
  pub different : IsDistinct is_same_block keys

-- a read of one block uses it, or leaves what is kept as it is and fails
pub record UsesBlock {X E : Type 0} (most : ℕ) (old new : List (ℕ × ℕ)) (key : ℕ × ℕ) (outcome : Result X E)
    : Type 0 where
  pub ok : OnOk outcome (new ≡ used_block most old key)
  pub err : OnErr outcome (new ≡ old)

-- A read of n places of source s from off on by blocks uses the block of each; or it fails at the first place or at
-- one where a block begins, and has used the blocks before that one alone.
pub record UsesBlocks {X E : Type 0} (most : ℕ) (old new : List (ℕ × ℕ)) (s off n : ℕ) (outcome : Result X E)
    : Type 0 where
  pub ok : OnOk outcome (new ≡ used_for most old s off n)
  pub err : OnErr outcome ((m : ℕ) × (m < max 1 n) × (m ≡ 0 ⊎ (off + m) % BLOCK_SIZE ≡ 0)
      × (new ≡ used_for most old s off m))

-- sources that are devices, how many blocks of them may be kept, and those that are, each by its source's number and
-- its own, the last used first
pub record Files (D : Type 0) : Type 0 where
  pub devices : List D
  pub most : ℕ
  pub kept : List (ℕ × ℕ)
