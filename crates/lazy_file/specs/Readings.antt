-- What contracts know of sources at one time, and what a call that may read them does.
use Rattle.std.specs.Prelude.{◌≡◌, ◌≢◌, ◌↔◌, ℕ, ◌+◌, ◌<◌, ◌≤◌, true, false, Option, Some, None, Result, Ok, Err, IfSome, length, slice_index}
use Rattle.lazy_file.specs.SourceTexts.{Stated, holds_span, text_at}
use Rattle.lazy_file.specs.declared.faults.SourceFault.{SourceFault}
use Rattle.lazy_file.specs.declared.faults.SourceFault.TheVariants.{Device, Short, BadSource}

-- what the sources state, and how many reads of each have failed
pub record Reading : Type 0 where
  pub stated : Stated
  pub failures : ℕ → ℕ

-- A read of source s that asked for its place p failed so: Device exactly where one more read of s has failed, Short
-- only where the text of s is shorter than its size, BadSource only where there is no such place. No read of another
-- source has failed; of sources that never fail the only fault is BadSource.
pub record IsFaultAt (before after : Reading) (s p : ℕ) (fault : SourceFault) : Type 0 where
  pub same : after.stated ≡ before.stated
  pub others : (r : ℕ) → r ≢ s → after.failures r ≡ before.failures r
  pub later : before.failures s ≤ after.failures s
  pub device : fault ≡ Device ↔ before.failures s < after.failures s
  pub short : fault ≡ Short → IfSome (text_at before.stated s) (λ t. length t < slice_index before.stated.sizes s)
  pub bad_source : fault ≡ BadSource → holds_span before.stated s p 1 ≡ false
  pub unfailing : before.stated.never_fails ≡ true → fault ≡ BadSource

-- a read that asked for one of these places failed so
pub record IsFaultAmong (before after : Reading) (Asked : ℕ → ℕ → Type 0) (fault : SourceFault) : Type 0 where
  pub s : ℕ
  pub p : ℕ
  pub asked : Asked s p
  pub at : IsFaultAt before after s p fault

-- the source's fault that an outcome is, if it is one, where faults of other kinds may be one of a source
abbrev pub fault_by : {X E : Type 0} → (E → Option SourceFault) → Result X E → Option SourceFault
fault_by source_fault (Ok x) = None
fault_by source_fault (Err e) = source_fault e

-- and where each fault is one
abbrev pub fault_in : {X : Type 0} → Result X SourceFault → Option SourceFault
fault_in outcome = fault_by Some outcome

-- What a call does that asks the sources for no other places: it answers no fault of theirs, and all is as before; or
-- it answers the fault of the one read that failed.
abbrev pub Reads : Reading → Reading → (ℕ → ℕ → Type 0) → Option SourceFault → Type 0
Reads before after Asked None = after ≡ before
Reads before after Asked (Some fault) = IsFaultAmong before after Asked fault

-- n places of source s from off on
abbrev pub InSpan : ℕ → ℕ → ℕ → ℕ → ℕ → Type 0
InSpan s off n r p = (r ≡ s) × (off ≤ p) × (p < off + n)
