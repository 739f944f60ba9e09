-- What a read of one of several devices leaves of them all.
use Rattle.std.proofs.Common.{inl, inr, ◌≡◌, ◌≢◌, ℕ, zero, suc, ◌+◌, ◌-◌, ◌<◌, ◌≤◌, List, [], ◌∷◌, refl, drop, get_or, length, map, take, arith, ap, ◌∙◌, sym, length-take}
use Rattle.std.proofs.Math.ListN as list
use Rattle.std.proofs.lemmas.Bool.{cases_eq}
use Rattle.std.specs.Prelude.{Option, Some, None, Result, Ok, Err, max, slice_get, slice_index, slice_set, OnOk, IfSome}
use Rattle.std.proofs.lemmas.List.{get_or-map, length-map, take-take}
use Rattle.std.proofs.lemmas.Result.{on_ok_weaker}
use Rattle.std.proofs.lemmas.Slice.{between_is}
use Rattle.lazy_file.specs.DeviceTexts.{AreBytesAt, AreSourceBytes, DeviceReading, DeviceText, FillsFrom, HasSpan, KeepsOthers, ReadsSource, calls_of, device_text, failures_of, no_device, no_reading, reading_by, stated_by, stated_texts}
use Rattle.lazy_file.specs.Readings.{fault_in, InSpan, Reads}
use Rattle.lazy_file.specs.SourceTexts.{text_at}
use Rattle.lazy_file.specs.declared.faults.SourceFault.{SourceFault}

-- what is set at one place leaves every other
slice_get-set_other : {D : Type 0} (ds : List D) (s k : ℕ) (d : D) → k ≢ s → slice_get (slice_set ds s d) k ≡ slice_get ds k
slice_get-set_other [] s k d other = refl
slice_get-set_other (x ∷ xs) zero zero d other = absurd (other refl)
slice_get-set_other (x ∷ xs) zero (suc k) d other = refl
slice_get-set_other (x ∷ xs) (suc s) zero d other = refl
slice_get-set_other (x ∷ xs) (suc s) (suc k) d other = slice_get-set_other xs s k d (λ e. other (ap suc e))

-- bytes of a text that end inside its first n are bytes of those
pub bytes_inside : (n : ℕ) (text : Option (List ℕ)) (off : ℕ) (xs : List ℕ) → off + length xs ≤ n
    → AreBytesAt text off xs → AreBytesAt (device_text (record { size = n; text = text })) off xs
bytes_inside n None off xs inside h = h
bytes_inside n (Some t) off xs inside h =
    let cut : take (n - off) (drop off t) ≡ drop off (take n t) = between_is t off n in
    let front : take (length xs) (take (n - off) (drop off t)) ≡ take (length xs) (drop off t) = take-take (length xs) (n - off) (drop off t) (omega (arith, inside)) in
    h ∙ sym front ∙ ap (take (length xs)) cut

-- a text that ends before the end of a span is shorter than the size in which that lies
pub shorter : (n : ℕ) (text : Option (List ℕ)) (m : ℕ) → m ≤ n → IfSome text (λ t. length t < m)
    → IfSome (device_text (record { size = n; text = text })) (λ t. length t < n)
shorter n None m inside h = h
shorter n (Some t) m inside h = omega (arith, h, inside, length-take n t)

-- what is set is found there
get_or-set_same : {D : Type 0} (f : D → DeviceReading) (ds : List D) (s : ℕ) (d : D) → s < length ds → get_or (map f (slice_set ds s d)) s no_reading ≡ f d
get_or-set_same f [] s d there = absurd (omega arith)
get_or-set_same f (x ∷ xs) zero d there = refl
get_or-set_same f (x ∷ xs) (suc s) d there = get_or-set_same f xs s d (omega arith)

-- what stands at a place of both lists is known as the same
pub reading_alike : {D : Type 0} (f : D → DeviceReading) (xs ys : List D) (k : ℕ) → slice_get xs k ≡ slice_get ys k → get_or (map f xs) k no_reading ≡ get_or (map f ys) k no_reading
reading_alike f [] [] k e = refl
reading_alike f [] (y ∷ ys) zero e = absurd cc
reading_alike f [] (y ∷ ys) (suc k) e = reading_alike f [] ys k e
reading_alike f (x ∷ xs) [] zero e = absurd cc
reading_alike f (x ∷ xs) [] (suc k) e = reading_alike f xs [] k e
reading_alike f (x ∷ xs) (y ∷ ys) zero e = let same : x ≡ y = cc in ap f same
reading_alike f (x ∷ xs) (y ∷ ys) (suc k) e = reading_alike f xs ys k e

-- what a device states among those of all
pub texts_at : (rs : List DeviceReading) (s : ℕ) → get_or (stated_texts rs) s no_device ≡ (get_or rs s no_reading).stated
texts_at [] s = refl
texts_at (r ∷ rs) zero = refl
texts_at (r ∷ rs) (suc s) = texts_at rs s

-- what all state, where one is set that states the same
texts_set : {D : Type 0} (f : D → DeviceReading) (ds : List D) (s : ℕ) (d after : D) → s < length ds → (f after).stated ≡ (f (get_or ds s d)).stated → stated_texts (map f (slice_set ds s after)) ≡ stated_texts (map f ds)
texts_set f [] s d after there same = absurd (omega arith)
texts_set f (x ∷ xs) zero d after there same = ap (λ (t : DeviceText). t ∷ stated_texts (map f xs)) same
texts_set f (x ∷ xs) (suc s) d after there same = ap (λ (ts : List DeviceText). (f x).stated ∷ ts) (texts_set f xs s d after (omega arith) same)

pub text_of_device : {D : Type 0} (reading : D → DeviceReading) (ds : List D) (s : ℕ) (d : D) → s < length ds → get_or (stated_texts (map reading ds)) s no_device ≡ (reading (get_or ds s d)).stated
text_of_device reading ds s d there = texts_at (map reading ds) s ∙ ap (λ (r : DeviceReading). r.stated) (get_or-map reading ds s d no_reading there)

-- a read of one of the devices, as one of source s
pub read_of_one : {D X : Type 0} (reading : D → DeviceReading) (ds : List D) (d after : D) (s off : ℕ) (buffer : List ℕ) (outcome : Result X SourceFault)
    → HasSpan (stated_texts (map reading ds)) s off (length buffer)
    → FillsFrom (reading (get_or ds s d)) (reading after) off buffer outcome
    → ReadsSource reading ds (slice_set ds s after) s (length buffer) outcome × OnOk outcome (AreSourceBytes (stated_texts (map reading ds)) s off buffer)
read_of_one reading ds d after s off buffer outcome span fills =
    let there : s < length ds = rw (length-map, length-map) at span.there in
    let was : get_or (map reading ds) s no_reading ≡ reading (get_or ds s d) = get_or-map reading ds s d no_reading there in
    let is : get_or (map reading (slice_set ds s after)) s no_reading ≡ reading after = get_or-set_same reading ds s after there in
    let own : get_or (stated_texts (map reading ds)) s no_device ≡ (reading (get_or ds s d)).stated = text_of_device reading ds s d there in
    let one = (reading (get_or ds s d)).stated in
    let failed_was : failures_of (map reading ds) s ≡ (reading (get_or ds s d)).failures = ap (λ (r : DeviceReading). r.failures) was in
    let failed_is : failures_of (map reading (slice_set ds s after)) s ≡ (reading after).failures = ap (λ (r : DeviceReading). r.failures) is in
    let called_was : calls_of (map reading ds) s ≡ (reading (get_or ds s d)).calls = ap (λ (r : DeviceReading). r.calls) was in
    let called_is : calls_of (map reading (slice_set ds s after)) s ≡ (reading after).calls = ap (λ (r : DeviceReading). r.calls) is in
    let within : off + length buffer ≤ one.size = rw own at span.inside in (
      record {
        same = texts_set reading ds s d after there fills.same;
        others = λ k other. slice_get-set_other ds s k after other;
        later = omega (arith, fills.later);
        calls = omega (arith, fills.calls);
        device = (λ failed. omega (arith, fills.device.0 failed), λ more. fills.device.1 (omega (arith, more)));
        once = omega (arith, fills.once);
        short = λ ended. rw own (shorter one.size one.text (off + length buffer) within (fills.short ended));
        inside = fills.inside;
      },
      rw own (on_ok_weaker outcome (bytes_inside one.size one.text off buffer within) fills.bytes),
    )

-- what is known of sources, of which one was read
module _ {D : Type 0} (reading : D → DeviceReading) (ds es : List D) (s off n most : ℕ) where
  other_failures : KeepsOthers ds es s → (k : ℕ) → k ≢ s → failures_of (map reading es) k ≡ failures_of (map reading ds) k
  other_failures others k other = ap (λ (r : DeviceReading). r.failures) (reading_alike reading es ds k (others k other))

  pub source_reads : {X : Type 0} (r : Result X SourceFault) → ReadsSource reading ds es s most r
      → Reads (reading_by (map reading ds)) (reading_by (map reading es)) (InSpan s off (max 1 n)) (fault_in r)
  source_reads (Ok x) h =
      let none : failures_of (map reading ds) s < failures_of (map reading es) s → ⊥ = λ lt. (let failed = h.device.1 lt in absurd cc) in
      let fails : (k : ℕ) → failures_of (map reading es) k ≡ failures_of (map reading ds) k = λ k. elim (cases_eq k s) [
        | inl e ↦ rw e (omega (arith, h.later, none))
        | inr other ↦ other_failures h.others k other
      ] in
      λ i. record { stated = stated_by (h.same i); failures = λ k. fails k i }
  source_reads (Err f) h = record {
    s = s;
    p = off;
    asked = (refl, omega arith, omega arith);
    at = record {
      same = ap stated_by h.same;
      others = other_failures h.others;
      later = h.later;
      device = (λ is. h.device.0 (ap Err is), λ more. (let failed = h.device.1 more in cc));
      short = λ is.
          let text : text_at (reading_by (map reading ds)).stated s ≡ device_text (get_or (stated_texts (map reading ds)) s no_device) = list.get_or-map device_text (stated_texts (map reading ds)) s no_device in
          let size : slice_index (reading_by (map reading ds)).stated.sizes s ≡ (get_or (stated_texts (map reading ds)) s no_device).size = list.get_or-map (λ (t : DeviceText). t.size) (stated_texts (map reading ds)) s no_device in
          rw (text, size) (h.short (ap Err is));
      bad_source = λ is. absurd (h.inside (ap Err is));
      unfailing = λ never. absurd cc;
    };
  }
