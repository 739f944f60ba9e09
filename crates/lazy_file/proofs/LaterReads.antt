-- Reads one after the other.
use Rattle.std.proofs.Common.{◌≡◌, ◌<◌, ℕ, true, Option, Some, None, arith, ap, inl, inr, refl, subst}
use Rattle.std.proofs.lemmas.Bool.{cases_eq}
use Rattle.lazy_file.specs.Readings.{Reading, Reads}
use Rattle.lazy_file.specs.SourceTexts.{holds_span}
use Rattle.lazy_file.specs.declared.faults.SourceFault.{SourceFault}
use Rattle.lazy_file.specs.declared.faults.SourceFault.TheVariants.{Device}

-- a call that asks for these places asks for no others than those
pub reads_weaker : (before after : Reading) (Asked Others : ℕ → ℕ → Type 0) (fault : Option SourceFault) → ((s p : ℕ) → Asked s p → Others s p) → Reads before after Asked fault → Reads before after Others fault
reads_weaker before after Asked Others None more reads = reads
reads_weaker before after Asked Others (Some f) more reads = record { s = reads.s; p = reads.p; asked = more reads.s reads.p reads.asked; at = reads.at }

-- what the call after one that answered no fault does, is done by both
pub reads_then : (a b c : Reading) (Asked : ℕ → ℕ → Type 0) (fault : Option SourceFault) → b ≡ a → Reads b c Asked fault → Reads a c Asked fault
reads_then a b c Asked fault same reads = subst (λ (r : Reading). Reads r c Asked fault) same reads

-- the sources state the same after any call
pub reads_same : (before after : Reading) (Asked : ℕ → ℕ → Type 0) (fault : Option SourceFault) → Reads before after Asked fault → after.stated ≡ before.stated
reads_same before after Asked None reads = let same : after ≡ before = reads in rw same refl
reads_same before after Asked (Some f) reads = reads.at.same

-- where a read has failed that is told
pub reads_told : (before after : Reading) (Asked : ℕ → ℕ → Type 0) (fault : Option SourceFault) → Reads before after Asked fault → (s : ℕ) → before.failures s < after.failures s → fault ≡ Some Device
reads_told before after Asked None reads s more = let same : after ≡ before = reads in let none : before.failures s < before.failures s = rw same at more in absurd (omega arith)
reads_told before after Asked (Some f) reads s more =
    let is = reads.at in
    elim (cases_eq s reads.s) [
      | inl e ↦ let here : before.failures reads.s < after.failures reads.s = rw e at more in ap Some (is.device.1 here)
      | inr other ↦ absurd (omega (arith, is.others s other))
    ]

-- sources that never fail, and hold each place that is asked for, are read without a fault
pub reads_succeed : (before after : Reading) (Asked : ℕ → ℕ → Type 0) (fault : Option SourceFault) → Reads before after Asked fault → before.stated.never_fails ≡ true → ((s p : ℕ) → Asked s p → holds_span before.stated s p 1 ≡ true) → fault ≡ None
reads_succeed before after Asked None reads never held = refl
reads_succeed before after Asked (Some f) reads never held =
    let is = reads.at in
    let bad = is.bad_source (is.unfailing never) in
    let there = held reads.s reads.p reads.asked in
    absurd cc

-- what the sources state, where a call answered no fault
pub same_stated : {before after : Reading} → after ≡ before → after.stated ≡ before.stated
same_stated same = ap (λ (r : Reading). r.stated) same
