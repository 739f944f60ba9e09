-- What is known of sources later.
use Rattle.std.proofs.Common.{◌≡◌, ℕ, Option, Some, None, inl, inr, refl, sym, subst, ◌∙◌, arith}
use Rattle.std.proofs.lemmas.Bool.{cases_eq}
use Rattle.lazy_file.specs.Readings.{Reading, Reads}
use Rattle.lazy_file.specs.declared.faults.SourceFault.{SourceFault}
use Rattle.screen_editor.specs.Runs.{IsLater}

pub later_itself : (a : Reading) → IsLater a a
later_itself a = record { same = refl; later = λ s. omega arith }

pub later_same : {a b : Reading} → b ≡ a → IsLater a b
later_same {a} {b} same = subst (λ (r : Reading). IsLater a r) (sym same) (later_itself a)

pub later_then : {a b c : Reading} → IsLater a b → IsLater b c → IsLater a c
later_then h k = record { same = k.same ∙ h.same; later = λ s. omega (arith, h.later s, k.later s) }

pub reads_later : (before after : Reading) (Asked : ℕ → ℕ → Type 0) (fault : Option SourceFault) → Reads before after Asked fault → IsLater before after
reads_later before after Asked None reads = later_same reads
reads_later before after Asked (Some f) reads = record {
  same = reads.at.same;
  later = λ s. elim (cases_eq s reads.s) [
    | inl e ↦ let later = reads.at.later in rw e later
    | inr other ↦ let same : after.failures s ≡ before.failures s = reads.at.others s other in omega (arith, same)
  ];
}
