-- When the outcome of a read meets its contract.
use Rattle.std.proofs.Common.{◌≡◌, ℕ, ◌+◌, ◌-◌, ◌<◌, max, false, length, refl, arith, ltb, leb, inl, inr}
use Rattle.std.specs.Prelude.{Some, slice_index}
use Rattle.std.proofs.lemmas.Bool.{cases_Bool, leb-false, lt-leb}
use Rattle.lazy_file.specs.SourceTexts.{Stated, holds_span}
use Rattle.lazy_file.specs.Readings.{InSpan, Reading, Reads}
use Rattle.lazy_file.specs.declared.faults.SourceFault.TheVariants.{BadSource}

-- a place of a span that is not there
pub record IsMissing (st : Stated) (s off n : ℕ) : Type 0 where
  pub p : ℕ
  pub inside : InSpan s off (max 1 n) s p
  pub missing : holds_span st s p 1 ≡ false

pub missing_place : (st : Stated) (s off n : ℕ) → holds_span st s off n ≡ false → IsMissing st s off n
missing_place st s off n bad =
    let p = off + (max 1 n - 1) in
    let inside : InSpan s off (max 1 n) s p = (refl, omega arith, omega arith) in
    record {
      p = p;
      inside = inside;
      missing = elim (cases_Bool (ltb s (length st.sizes))) [
        | inl there ↦
            let past : leb (off + n) (slice_index st.sizes s) ≡ false = rw there at bad in
            let short : slice_index st.sizes s < off + n = leb-false (off + n) (slice_index st.sizes s) past in
            rw (there, lt-leb (p + 1) (slice_index st.sizes s) (omega (arith, short))) refl
        | inr not_there ↦ rw not_there refl
      ];
    }

-- a read of a span that is not there
pub refused_span : (r : Reading) (s off n : ℕ) → holds_span r.stated s off n ≡ false → Reads r r (InSpan s off (max 1 n)) (Some BadSource)
refused_span r s off n bad =
    let at = missing_place r.stated s off n bad in
    record {
      s = s;
      p = at.p;
      asked = at.inside;
      at = record {
        same = refl;
        others = λ k other. refl;
        later = omega arith;
        device = (λ e. absurd cc, λ more. absurd (omega arith));
        short = λ e. absurd cc;
        bad_source = λ e. at.missing;
        unfailing = λ never. refl;
      };
    }
