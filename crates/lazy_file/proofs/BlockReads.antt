-- What a read by a block gives, and that each block that is kept stays one of its source.
use Rattle.std.proofs.Common.{◌≡◌, ℕ, ◌+◌, ◌*◌, ◌-◌, ◌/◌, ◌≤◌, Bool, true, false, Contains, List, Vec, drop, get_or, length, take, arith, ap, refl, subst, sym, inl, inr, ◌∙◌, drop-drop, length-take, length-drop}
use Rattle.std.specs.Prelude.{◌++◌, Option, Some, None, Result, OnOk}
use Rattle.std.proofs.lemmas.List.{take-take}
use Rattle.std.proofs.lemmas.Result.{on_ok_weaker}
use Rattle.std.proofs.lemmas.Slice.{between_is}
use Rattle.lazy_file.proofs.DeviceReads.{bytes_then}
use Rattle.lazy_file.specs.DeviceTexts.{AreBytesAt, AreSourceBytes, DeviceText, HasSpan, device_text, no_device}
use Rattle.lazy_file.specs.KeptBlocks.{AreKept, AreKeptFor, CopiesKept, IsBlockOf, KeepsBlock, Kept, KeepsOne, ReadsBlock}
use Rattle.std.specs.Map.{keys_of}
use Rattle.lazy_file.specs.declared.kept_blocks.TheConstants.{BLOCK_SIZE}

-- a part of bytes that stand at off
pub part_at : (text : Option (List ℕ)) (off from : ℕ) (block part : List ℕ) → AreBytesAt text off block
    → part ≡ take (length part) (drop from block) → AreBytesAt text (off + from) part
part_at None off from block part h is = h
part_at (Some t) off from block part h is =
    let n = length part in
    let rest = length block - from in
    let few : n ≤ rest = omega (arith, ap length is, length-take n (drop from block), length-drop from block) in
    let cut : drop from block ≡ take rest (drop from (drop off t)) = ap (drop from) h ∙ sym (between_is (drop off t) from (length block)) in
    let front : take n (take rest (drop from (drop off t))) ≡ take n (drop from (drop off t)) = take-take n rest (drop from (drop off t)) few in
    is ∙ ap (take n) cut ∙ front ∙ ap (take n) (drop-drop from off t)

module _ {A : Type 0} (ds : List DeviceText) (old new : Kept A) where
  -- a block was looked up
  pub kept_moved : {from : ℕ} {key : ℕ × ℕ} {part : List ℕ} {copied : Bool} → AreKept ds old → CopiesKept old new key from part copied → AreKept ds new
  kept_moved h copies = λ key block there. h key block (copies.kept key block there)

  -- one more block is kept
  pub kept_with : (key : ℕ × ℕ) (block : Vec ℕ A) → AreKept ds old → KeepsOne old new key block → IsBlockOf ds key block.items → AreKept ds new
  kept_with key block h one is = λ other bytes there. elim (one other bytes there) [
    | inl was ↦ h other bytes was
    | inr new ↦ subst (λ k. IsBlockOf ds k bytes.items) (sym new.0) (subst (λ b. IsBlockOf ds key b.items) (sym new.1) is)
  ]

-- a part of a kept block
pub part_of_kept : {A : Type 0} (ds : List DeviceText) (old new : Kept A) (key : ℕ × ℕ) (from : ℕ) (part : List ℕ) → AreKept ds old
    → CopiesKept old new key from part true → AreSourceBytes ds key.0 (key.1 * BLOCK_SIZE + from) part
part_of_kept ds old new key from part h copies =
    let found = copies.found refl in
    part_at (device_text (get_or ds key.0 no_device)) (key.1 * BLOCK_SIZE) from found.0.items part (h key found.0 found.1).bytes found.2

-- a part of a block that was read
pub part_of_read : (ds : List DeviceText) (key : ℕ × ℕ) (from : ℕ) (block part : List ℕ) → AreSourceBytes ds key.0 (key.1 * BLOCK_SIZE) block
    → part ≡ take (length part) (drop from block) → AreSourceBytes ds key.0 (key.1 * BLOCK_SIZE + from) part
part_of_read ds key from block part h is = part_at (device_text (get_or ds key.0 no_device)) (key.1 * BLOCK_SIZE) from block part h is

-- the bytes of two blocks, where the second begins at the end of what was read of the first
pub two_parts : {X E : Type 0} (r : Result X E) (ds after : List DeviceText) (s off place next : ℕ) (front back : List ℕ) → after ≡ ds
    → place ≡ off → next ≡ off + length front
    → AreSourceBytes ds s place front → OnOk r (AreSourceBytes after s next back) → OnOk r (AreSourceBytes ds s off (front ++ back))
two_parts r ds after s off place next front back same here there first second =
    let one : AreSourceBytes ds s off front = rw here at first in
    on_ok_weaker r (λ h. bytes_then (device_text (get_or ds s no_device)) off front back one (rw (same, there) at h)) second

-- a kept block has all bytes of its source that are asked of it
long_enough : {A : Type 0} (ds : List DeviceText) (kept : Kept A) (key : ℕ × ℕ) (from n : ℕ) → AreKept ds kept → HasSpan ds key.0 (key.1 * BLOCK_SIZE + from) n → from + n ≤ BLOCK_SIZE
    → (block : Vec ℕ A) → Contains kept (key, block) → from + n ≤ length block.items
long_enough ds kept key from n are span fits block there = let is = are key block there in omega (arith, is.whole, span.inside, fits)

-- where nothing was copied of a block, it is not kept
pub missed_block : {A : Type 0} (ds : List DeviceText) (kept new : Kept A) (key : ℕ × ℕ) (from : ℕ) (part : List ℕ) (n : ℕ) → AreKept ds kept → HasSpan ds key.0 (key.1 * BLOCK_SIZE + from) n
    → from + n ≤ BLOCK_SIZE → length part ≡ n → CopiesKept kept new key from part false → KeepsBlock kept key → ⊥
missed_block ds kept new key from part n are span fits same copies there =
    let copied = copies.copied_if there (λ block is. omega (arith, long_enough ds kept key from n are span fits block is, same)) in
    absurd cc

-- `ReadsBlock` asks nothing of a block that is not kept
pub block_unkept : {A D : Type 0} (before after : List D) (old new : Kept A) (key : ℕ × ℕ) → (KeepsBlock old key → ⊥) → ReadsBlock before after old new key
block_unkept before after old new key away = record { unread = λ there. absurd (away there); stays = λ there. absurd (away there) }

-- where the blocks of all bytes are kept, and are one, that is not read
pub one_unread : {A D : Type 0} (ds es : List D) (old new : Kept A) (s off n block : ℕ) → 1 ≤ n → off / BLOCK_SIZE ≡ block
    → ReadsBlock ds es old new (s, block) → AreKeptFor (keys_of old) s off n → es ≡ ds
one_unread ds es old new s off n block some first one are = one.unread (subst (λ b. KeepsBlock old (s, b)) first (are off (omega arith) (omega (arith, some))))

-- where the blocks of all bytes are kept, neither of two is read
pub both_unread : {A D : Type 0} (ds mid es : List D) (old kept new : Kept A) (s off n block : ℕ) → 1 ≤ n → off / BLOCK_SIZE ≡ block → (off + n - 1) / BLOCK_SIZE ≡ block + 1
    → ReadsBlock ds mid old kept (s, block) → ReadsBlock mid es kept new (s, block + 1) → AreKeptFor (keys_of old) s off n → es ≡ ds
both_unread ds mid es old kept new s off n block some first last one two are =
    let here : KeepsBlock old (s, block) = subst (λ b. KeepsBlock old (s, b)) first (are off (omega arith) (omega arith)) in
    let end : KeepsBlock old (s, block + 1) = subst (λ b. KeepsBlock old (s, b)) last (are (off + n - 1) (omega (arith, some)) (omega (arith, some))) in
    two.unread (one.stays here (s, block + 1) end) ∙ one.unread here
