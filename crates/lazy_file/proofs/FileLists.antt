-- What holds of the devices that are sources, and of the blocks kept of them, holds with one more device.
use Rattle.std.proofs.Common.{◌≡◌, ℕ, ◌<◌, ◌≤◌, Bool, true, false, cond, List, [], ◌∷◌, ◌++◌, get_or, length, map, arith, ap, drop, refl, sym, ◌∙◌, take, rules, length-append}
use Rattle.std.specs.Prelude.{All, Contains, Vec}
use Rattle.std.specs.List.{IsDistinct}
use Rattle.lru.proofs.Splits.{Contains-nil}
use Rattle.std.proofs.lemmas.List.{get_or_append_left, get_or-map, length-map, map-append}
use Rattle.std.proofs.lemmas.List.Elements.{All-append, All-get_or}
use Rattle.std.proofs.Math.Seq.{take-append_seam}
use Rattle.lazy_file.specs.SourceTexts.{AreSizes}
use Rattle.lazy_file.specs.declared.sources.TheConstants.{COUNT_LIMIT, SOURCE_LIMIT}
use Rattle.lazy_file.specs.DeviceTexts.{DeviceReading, DeviceText, no_device, stated_by, stated_texts}
use Rattle.lazy_file.specs.KeptBlocks.{AreKept, AreWithin, IsBlockOf, Kept}
use Rattle.std.specs.Map.{keys_of}

-- no source is longer than a source may be
pub size_in_limit : (ds : List DeviceText) (s : ℕ) → AreSizes (stated_by ds).sizes → s < length ds → (get_or ds s no_device).size ≤ SOURCE_LIMIT
size_in_limit ds s sizes there =
    let one : get_or (map (λ d. d.size) ds) s 0 ≡ (get_or ds s no_device).size = get_or-map (λ (d : DeviceText). d.size) ds s no_device 0 there in
    rw one at (All-get_or (λ n. n ≤ SOURCE_LIMIT) (map (λ d. d.size) ds) s 0 (rw length-map there) sizes.each)

-- what holds of sources and of the blocks that are kept
abbrev pub AreSound : {A : Type 0} → List DeviceText → ℕ → Kept A → Type 0
AreSound ds most kept = AreSizes (stated_by ds).sizes × AreKept ds kept × AreWithin most (keys_of kept)

-- no sources, and no block kept of them
pub none_sound : {A : Type 0} (ds : List DeviceText) (most : ℕ) (kept : Kept A) → ds ≡ [] → kept ≡ [] → 0 < most → AreSound ds most kept
unfolding IsDistinct
none_sound {A} ds most kept no_source nothing some =
    let sizes : AreSizes (stated_by []).sizes = record { count = omega arith; each = search rules } in
    let blocks : (key : ℕ × ℕ) (block : Vec ℕ A) → Contains {X = (ℕ × ℕ) × Vec ℕ A} [] (key, block) → IsBlockOf [] key block.items = λ key block there. absurd (Contains-nil (key, block) there) in
    let within : AreWithin most [] = record { some = some; fit = omega arith; different = tt } in
    rw (no_source, nothing) (sizes, blocks, within)

block_of_more : (ds : List DeviceText) (d : DeviceText) (key : ℕ × ℕ) (block : List ℕ) → IsBlockOf ds key block → IsBlockOf (ds ++ d ∷ []) key block
block_of_more ds d key block is = record {
  there = omega (arith, is.there, length-append ds (d ∷ []));
  bytes = rw (get_or_append_left ds (d ∷ []) no_device key.0 is.there) is.bytes;
  whole = rw (get_or_append_left ds (d ∷ []) no_device key.0 is.there) is.whole;
}

sizes_of_more : (ds : List DeviceText) (d : DeviceText) → AreSizes (stated_by ds).sizes → length ds < COUNT_LIMIT → d.size ≤ SOURCE_LIMIT → AreSizes (stated_by (ds ++ d ∷ [])).sizes
sizes_of_more ds d sizes room size =
    let one : All (λ n. n ≤ SOURCE_LIMIT) (d.size ∷ []) = search rules in
    let same : length (map (λ (e : DeviceText). e.size) ds) ≡ length ds = rw length-map in
    rw (map-append (λ (e : DeviceText). e.size) ds (d ∷ [])) (record {
      count = omega (arith, length-append (map (λ (e : DeviceText). e.size) ds) (d.size ∷ []), same, room);
      each = All-append (λ n. n ≤ SOURCE_LIMIT) (map (λ e. e.size) ds) (d.size ∷ []) sizes.each one;
    })

-- the devices after one was added or not
pub sound_after : {A D : Type 0} (reading : D → DeviceReading) (added : Bool) (old new : List D) (d : D) (most : ℕ) (kept : Kept A) → AreSound (stated_texts (map reading old)) most kept
    → length old < COUNT_LIMIT → (reading d).stated.size ≤ SOURCE_LIMIT → new ≡ cond added (old ++ d ∷ []) old → AreSound (stated_texts (map reading new)) most kept
sound_after reading false old new d most kept sound room size is = rw is sound
sound_after reading true old new d most kept sound room size is =
    let ds = stated_texts (map reading old) in
    let text = (reading d).stated in
    let more : AreSound (ds ++ text ∷ []) most kept = (sizes_of_more ds text sound.0 (rw (length-map, length-map) room) size, λ key block there. block_of_more ds text key block.items (sound.1 key block there), sound.2) in
    let all : stated_texts (map reading (old ++ d ∷ [])) ≡ ds ++ text ∷ [] = rw (map-append reading old (d ∷ []), map-append (λ (r : DeviceReading). r.stated) (map reading old) (reading d ∷ [])) refl in
    rw (is, all) more

-- a vector's items, whose slice was written: all that was written
pub refilled : {D : Type 0} (n : ℕ) (items written : List D) → n ≡ length items → length written ≡ length items → take n (written ++ drop (length written) items) ≡ written
refilled n items written len same = ap (λ k. take k (written ++ drop (length written) items)) (len ∙ sym same) ∙ take-append_seam written (drop (length written) items)
