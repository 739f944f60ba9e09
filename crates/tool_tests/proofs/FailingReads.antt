-- What a read of files does of which one fails.
use Rattle.std.proofs.Common.{◌≡◌, ℕ, max, List, true, false, refl, arith, ap, eqb}
use Rattle.std.proofs.lemmas.Bool.{eq-eqb, ne_eqb}
use Rattle.lazy_file.specs.Readings.{InSpan, IsFaultAmong, Reading}
use Rattle.lazy_file.specs.SourceTexts.{Stated, stated_in_memory}
use Rattle.lazy_file.specs.declared.faults.SourceFault.{SourceFault}
use Rattle.lazy_file.specs.declared.faults.SourceFault.TheVariants.{Device, BadSource}
use Rattle.tool_tests.specs.Failing.{one_failing}

-- what is known of texts in memory
abbrev in_memory : List (List ℕ) → Reading
in_memory xs = record { stated = stated_in_memory xs; failures = λ _. 0 }

-- where the texts are read, all is as before
pub read_well : (old new : List (List ℕ)) (broken failed : ℕ) → in_memory new ≡ in_memory old
    → one_failing (stated_in_memory new) broken failed ≡ one_failing (stated_in_memory old) broken failed
read_well old new broken failed same =
    ap (λ st. one_failing st broken failed) (ap (λ (r : Reading). r.stated) same)

-- where there is no such place
pub read_nowhere : (old new : List (List ℕ)) (broken failed : ℕ) (Asked : ℕ → ℕ → Type 0) (fault : SourceFault)
    → IsFaultAmong (in_memory old) (in_memory new) Asked fault
    → IsFaultAmong (one_failing (stated_in_memory old) broken failed) (one_failing (stated_in_memory new) broken failed) Asked fault
read_nowhere old new broken failed Asked fault told =
    let bad : fault ≡ BadSource = told.at.unfailing refl in
    record {
      s = told.s;
      p = told.p;
      asked = told.asked;
      at = record {
        same = ap (λ (st : Stated). record st { never_fails = false }) told.at.same;
        others = λ r other. refl;
        later = omega arith;
        device = (λ e. absurd cc, λ more. absurd (omega arith));
        short = λ e. absurd cc;
        bad_source = told.at.bad_source;
        unfailing = λ never. absurd cc;
      };
    }

-- where the file fails
pub read_failed : (old new : List (List ℕ)) (s off n : ℕ) → in_memory new ≡ in_memory old
    → IsFaultAmong (one_failing (stated_in_memory old) s 0) (one_failing (stated_in_memory new) s 1) (InSpan s off (max 1 n)) Device
read_failed old new s off n same =
    let here : eqb s s ≡ true = eq-eqb s s refl in
    record {
      s = s;
      p = off;
      asked = (refl, omega arith, omega arith);
      at = record {
        same = ap (λ (r : Reading). record r.stated { never_fails = false }) same;
        others = λ r other. rw (ne_eqb r s other) refl;
        later = rw here (omega arith);
        device = (λ e. rw here (omega arith), λ more. refl);
        short = λ e. absurd cc;
        bad_source = λ e. absurd cc;
        unfailing = λ never. absurd cc;
      };
    }

pub ruleset reads_of_files = (read_well, read_nowhere, read_failed)
