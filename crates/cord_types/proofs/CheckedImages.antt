-- What a check answers over what sources state, at each of its ends.
use Rattle.std.proofs.Common.{◌≡◌, ℕ, List, true, false, inl, inr, refl, sym, ap, subst, ◌∙◌}
use Rattle.std.specs.Prelude.{Err, IsOk, None, Ok, Result}
use Rattle.lazy_file.specs.SourceTexts.{AreSizes, Stated}
use Rattle.lazy_file.specs.Readings.{Reads}
use Rattle.lazy_file.specs.declared.faults.AddFault.{AddFault}
use Rattle.lazy_file.proofs.LaterReads.{reads_same}
use Rattle.image_reader.specs.Accepted.{HasSources}
use Rattle.image_reader.specs.Value.{ImageValue, IsImage}
use Rattle.image_reader.specs.Reading.{fault_of, image_in}
use Rattle.image_reader.specs.Spelling.{spelling}
use Rattle.image_reader.proofs.WholeImages.{whole_again}
use Rattle.session_checker.specs.Accepted.{Accepts, BytesAsk, IsAccepted, IsExact, IsFirstFault, NeedsNoRead, SpellsFaithful}
use Rattle.session_checker.specs.Faithful.{IsFaithful}
use Rattle.session_checker.specs.RevisionRules.{source_fault}
use Rattle.session_checker.specs.declared.fault.CheckFault.{CheckFault}
use Rattle.cord_types.specs.declared.verdict.CordVerdict.{CordVerdict}
use Rattle.cord_types.specs.HeldTexts.{limit_fault, reading_of}
use Rattle.cord_types.specs.Verdicts.{accepted_verdict, limit_verdict, refused_verdict}
use Rattle.cord_types.specs.Answers.{JudgesImage}

-- the image that bytes spell
pub image_again : (bytes : List ℕ) (v : ImageValue) → IsImage v → bytes ≡ spelling v → image_in bytes ≡ v
image_again bytes v image spelled = ap image_in spelled ∙ (whole_again v image).1

pub faultless : (bytes : List ℕ) (v : ImageValue) → IsImage v → bytes ≡ spelling v → fault_of bytes ≡ None
faultless bytes v image spelled = ap fault_of spelled ∙ (whole_again v image).0

-- sources that are none
pub none_checks : (bytes : List ℕ) (st : Stated) (x : CordVerdict) (f : AddFault) → (AreSizes st.sizes → ⊥) → f ≡ limit_fault st.sizes → x ≡ limit_verdict f → JudgesImage bytes st false x
none_checks bytes st x f none fault named = record {
  faithful = λ e. absurd cc;
  counts = λ e. absurd cc;
  refused = λ e. inl (record { none = none; named = named ∙ ap limit_verdict fault });
  no_sources = λ _. named ∙ ap limit_verdict fault;
  always = λ sizes needs. absurd (none sizes);
  accepts = λ sizes all is. absurd (none sizes);
  refuses = λ sizes all g first. absurd (none sizes);
}

-- an image that is accepted
pub accepted_checks : (bytes : List ℕ) (held st : Stated) (v : ImageValue) (x : CordVerdict) → held ≡ st → AreSizes held.sizes → IsFaithful v held → IsImage v × (bytes ≡ spelling v) → HasSources v held.sizes → (IsOk {E = CheckFault} (Ok v) → IsAccepted bytes held)
    → IsExact held bytes (Ok v) → x ≡ accepted_verdict v → JudgesImage bytes st true x
accepted_checks bytes held st v x is sizes faithful image sources accepted exact named =
    let same : image_in bytes ≡ v = image_again bytes v image.0 image.1 in
    subst (λ (y : Stated). JudgesImage bytes y true x) is (record {
      faithful = λ _. subst (SpellsFaithful bytes held) (sym same) (record { accepted = accepted refl; image = image.0; spelled = image.1; sources = sources; faithful = faithful });
      counts = λ _. named ∙ ap accepted_verdict (sym same);
      refused = λ e. absurd cc;
      no_sources = λ none. absurd (none sizes);
      always = λ _ needs. refl;
      accepts = λ _ all good. refl;
      refuses = λ _ all f first. let never = (exact all).refuses f first in absurd cc;
    })

-- an image that is refused
pub refused_checks : (bytes : List ℕ) (old new st : Stated) (f : CheckFault) (x : CordVerdict) → old ≡ st → AreSizes old.sizes → (source_fault f ≡ None → IsFirstFault old bytes f) → Reads (reading_of old) (reading_of new) (BytesAsk old bytes) (source_fault f)
    → IsExact old bytes (Err f) → ((n : NeedsNoRead bytes old.sizes) → Accepts (Err f) n.v) → x ≡ refused_verdict f → JudgesImage bytes st false x
refused_checks bytes old new st f x is sizes first reads exact always named =
    let same : new ≡ old = reads_same (reading_of old) (reading_of new) (BytesAsk old bytes) (source_fault f) reads in
    let own : Reads (reading_of old) (reading_of old) (BytesAsk old bytes) (source_fault f) = subst (λ (y : Stated). Reads (reading_of old) (reading_of y) (BytesAsk old bytes) (source_fault f)) same reads in
    subst (λ (y : Stated). JudgesImage bytes y false x) is (record {
      faithful = λ e. absurd cc;
      counts = λ e. absurd cc;
      refused = λ _. inr (record { fault = f; first = first; reads = own; named = named });
      no_sources = λ none. absurd (none sizes);
      always = λ _ needs. let never = (always needs).ok in absurd cc;
      accepts = λ _ all good. let never = (exact all).accepts good in absurd cc;
      refuses = λ _ all g other. named ∙ ap refused_verdict (same_fault f g ((exact all).refuses g other));
    })
  where
    refusal : CheckFault → Result ImageValue CheckFault
    refusal e = Err e

    same_fault : (e g : CheckFault) → refusal e ≡ refusal g → e ≡ g
    same_fault e g is = cc
