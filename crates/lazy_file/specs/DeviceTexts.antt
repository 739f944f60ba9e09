-- What devices state, and what a read of one, or of sources that are devices, does.
use Rattle.std.specs.Prelude.{◌≡◌, ◌≢◌, ◌↔◌, ◌<◌, ◌≤◌, ℕ, false, ◌+◌, ◌-◌, ◌/◌, List, Option, None, Result, drop, get_or, length, map, slice_get, take, option_map, IfOk, IfSome, IsErr, IsErrOf, OnOk}
use Rattle.lazy_file.specs.SourceTexts.{Stated}
use Rattle.lazy_file.specs.Readings.{Reading}
use Rattle.lazy_file.specs.declared.kept_blocks.TheConstants.{BLOCK_SIZE}
use Rattle.lazy_file.specs.declared.sources.TheConstants.{SOURCE_LIMIT}
use Rattle.lazy_file.specs.declared.faults.SourceFault.{SourceFault}
use Rattle.lazy_file.specs.declared.faults.SourceFault.TheVariants.{Device, Short, BadSource}

-- what a device states: its size, and its text where it states one
pub record DeviceText : Type 0 where
  pub size : ℕ
  pub text : Option (List ℕ)

-- a device that is not there
abbrev pub no_device : DeviceText
no_device = record { size = 0; text = None }

-- a device of this size that states no text
abbrev pub unstated : ℕ → DeviceText
unstated size = record { size = size; text = None }

-- these bytes stand at off in the text, where one is stated
abbrev pub AreBytesAt : Option (List ℕ) → ℕ → List ℕ → Type 0
AreBytesAt text off bytes = IfSome text (λ t. bytes ≡ take (length bytes) (drop off t))

-- what contracts know of a device at one time: what it states, how many reads of it have failed, and how many were
-- asked for at most
pub record DeviceReading : Type 0 where
  pub stated : DeviceText
  pub failures : ℕ
  pub calls : ℕ

-- what a device may answer to one read of it from off on, where its buffer was old and is new
pub record ReadsAt {E : Type 0} (before after : DeviceReading) (off : ℕ) (old new : List ℕ) (outcome : Result ℕ E)
    : Type 0 where
  pub same : after.stated ≡ before.stated
  pub later : before.failures ≤ after.failures
  pub failed : IsErr outcome ↔ before.failures < after.failures
  pub once : after.failures ≤ before.failures + 1
  pub calls : after.calls ≤ before.calls + 1
  pub count : IfOk outcome (λ n. n ≤ length old)
  pub bytes : IfOk outcome (λ n. AreBytesAt before.stated.text off (take n new))
  pub end : IfOk outcome (λ n. n ≡ 0 → 0 < length old → IfSome before.stated.text (λ t. length t ≤ off))

-- the text of a source that is a device: as many bytes as its size
abbrev pub device_text : DeviceText → Option (List ℕ)
device_text d = option_map (take d.size) d.text

-- what sources state that are devices
abbrev pub stated_by : List DeviceText → Stated
stated_by ds = record { sizes = map (λ d. d.size) ds; texts = map device_text ds; never_fails = false }

-- a device that is not there, which nobody reads
abbrev pub no_reading : DeviceReading
no_reading = record { stated = no_device; failures = 0; calls = 0 }

-- what is known of the devices without their counts
abbrev pub stated_texts : List DeviceReading → List DeviceText
stated_texts ds = map (λ d. d.stated) ds

-- how many reads of source s have failed
abbrev pub failures_of : List DeviceReading → ℕ → ℕ
failures_of ds s = (get_or ds s no_reading).failures

-- what is known of sources that are devices
abbrev pub reading_by : List DeviceReading → Reading
reading_by ds = record { stated = stated_by (stated_texts ds); failures = failures_of ds }

-- the outcome of reading a device from off on until the buffer was full
pub record FillsFrom {X : Type 0} (before after : DeviceReading) (off : ℕ) (buffer : List ℕ)
    (outcome : Result X SourceFault) : Type 0 where
  pub same : after.stated ≡ before.stated
  pub later : before.failures ≤ after.failures
  pub calls : after.calls ≤ before.calls + length buffer
  pub bytes : OnOk outcome (AreBytesAt before.stated.text off buffer)
  pub device : IsErrOf outcome Device ↔ before.failures < after.failures
  pub once : after.failures ≤ before.failures + 1
  pub short : IsErrOf outcome Short → IfSome before.stated.text (λ t. length t < off + length buffer)
  pub inside : IsErrOf outcome BadSource → ⊥

-- source s is there, and n bytes from off on lie inside its size, which is no larger than a source may have
pub record HasSpan (ds : List DeviceText) (s off n : ℕ) : Type 0 where
  pub there : s < length ds
  pub inside : off + n ≤ (get_or ds s no_device).size
  pub limit : (get_or ds s no_device).size ≤ SOURCE_LIMIT

-- these bytes stand at off in the text of source s, where it states one
abbrev pub AreSourceBytes : List DeviceText → ℕ → ℕ → List ℕ → Type 0
AreSourceBytes ds s off bytes = AreBytesAt (device_text (get_or ds s no_device)) off bytes

-- every device but that of source s is as it was
abbrev pub KeepsOthers : {D : Type 0} → List D → List D → ℕ → Type 0
KeepsOthers old new s = (k : ℕ) → k ≢ s → slice_get new k ≡ slice_get old k

-- how many calls of the device of source s there were at most
abbrev pub calls_of : List DeviceReading → ℕ → ℕ
calls_of ds s = (get_or ds s no_reading).calls

-- how many blocks n bytes from off on lie in
abbrev pub blocks_in : ℕ → ℕ → ℕ
blocks_in off n = (off + n + (BLOCK_SIZE - 1)) / BLOCK_SIZE - off / BLOCK_SIZE

-- what reading source s by at most `most` calls of its device leaves of the devices, and when each fault of it comes
pub record ReadsSource {D X : Type 0} (reading : D → DeviceReading) (before after : List D) (s most : ℕ)
    (outcome : Result X SourceFault) : Type 0 where
  pub same : stated_texts (map reading after) ≡ stated_texts (map reading before)
  pub others : KeepsOthers before after s
  pub later : failures_of (map reading before) s ≤ failures_of (map reading after) s
  pub calls : calls_of (map reading after) s ≤ calls_of (map reading before) s + most
  pub device : IsErrOf outcome Device ↔ failures_of (map reading before) s < failures_of (map reading after) s
  pub once : failures_of (map reading after) s ≤ failures_of (map reading before) s + 1
  pub short : IsErrOf outcome Short
      → IfSome (device_text (get_or (stated_texts (map reading before)) s no_device))
      (λ t. length t < (get_or (stated_texts (map reading before)) s no_device).size)
  pub inside : IsErrOf outcome BadSource → ⊥
