-- Versions by their numbers.
use Rattle.std.proofs.Common.{◌≡◌, ℕ, ◌≤◌, false, not, eqb, ltb, ◌&&◌, refl, sym, subst, ◌∙◌, arith, inl, inr}
use Rattle.std.proofs.lemmas.Bool.{and_cases, not-false, not_from_true, eqb-true, eq-eqb, ltb-false, le-ltb, cases_Bool}
use Rattle.std.specs.List.{sum_by, AllByRecursion}
use Rattle.std.proofs.Common.{List, [], ◌∷◌}
use Rattle.std.proofs.lemmas.List.Sums.{sum_by-cons}
use Rattle.command_parts.specs.Fields.{splices_of}
use Rattle.command_parts.specs.declared.edit.TheConstants.{SPLICES_LIMIT}
use Rattle.command_parts.specs.declared.codes.TheConstants.{MANY}
use Rattle.image_reader.specs.declared.revision.Revision.{Revision}
use Rattle.image_reader.specs.declared.version.FormatVersion.{FormatVersion}
use Rattle.image_reader.specs.declared.version.FormatVersion.TheVariants.{One, Two}
use Rattle.image_reader.specs.Versions.{version_number, version_by, last_code, is_two}
use Rattle.image_reader.specs.Value.{ImageValue, IsImage, FitsRevision, in_version_two}
use Rattle.command_parts.proofs.RecordedNumbers.{splices_none}

pub version_again : (v : FormatVersion) → version_by (version_number v) ≡ v
version_again One = refl
version_again Two = refl

pub version_known : (v : FormatVersion) → (not (eqb (version_number v) 1) && not (eqb (version_number v) 2)) ≡ false
version_known One = refl
version_known Two = refl

named : (n k : ℕ) → n ≡ k → version_number (version_by k) ≡ k → version_number (version_by n) ≡ n
named n k is same = subst (λ (i : ℕ). version_number (version_by i) ≡ i) (sym is) same

-- a number that is not refused is its version's
pub version_back : (n : ℕ) → (not (eqb n 1) && not (eqb n 2)) ≡ false → version_number (version_by n) ≡ n
version_back n known =
    elim (cases_Bool (eqb n 2)) [
      | inl two ↦ let is : n ≡ 2 = eqb-true _ _ two in named n 2 is refl
      | inr other ↦ elim (and_cases _ _ known) [
        | inl one ↦ let is : n ≡ 1 = eqb-true _ _ (not-false _ one) in named n 1 is refl
        | inr two ↦ let is : n ≡ 2 = eqb-true _ _ (not-false _ two) in named n 2 is refl
      ]
    ]

-- how many splices a header may state
pub record MaySay (v : FormatVersion) (n : ℕ) : Type 0 where
  pub few : n ≤ SPLICES_LIMIT
  pub none : v ≡ One → n ≡ 0

pub may_say : (v : FormatVersion) (n : ℕ) → (is_two v && ltb SPLICES_LIMIT n) ≡ false → (not (is_two v) && not (eqb n 0)) ≡ false → MaySay v n
may_say One n over pad = let zero : n ≡ 0 = eqb-true _ _ (not-false _ pad) in record { few = omega arith; none = λ is. zero }
may_say Two n over pad = record { few = ltb-false _ _ over; none = λ is. absurd cc }

pub not_over : (v : FormatVersion) (n : ℕ) → MaySay v n → (is_two v && ltb SPLICES_LIMIT n) ≡ false
not_over One n says = refl
not_over Two n says = le-ltb _ _ says.few

pub no_pad : (v : FormatVersion) (n : ℕ) → MaySay v n → (not (is_two v) && not (eqb n 0)) ≡ false
no_pad One n says = not_from_true _ (eq-eqb _ _ (says.none refl))
no_pad Two n says = refl

-- revisions of version 1 have no splices
pub none_spliced : (xs : List Revision) → AllByRecursion (FitsRevision One) xs → sum_by (λ (r : Revision). splices_of r.edit) xs ≡ 0
none_spliced [] fits = refl
none_spliced (x ∷ xs) fits = sum_by-cons (λ (r : Revision). splices_of r.edit) x xs ∙ rw (splices_none x.edit fits.0.known, none_spliced xs fits.1) refl

-- ---- the same image in version 2

last_small : (v : FormatVersion) → last_code v ≤ MANY
last_small One = omega arith
last_small Two = omega arith

fit_in_two : (v : FormatVersion) (xs : List Revision) → AllByRecursion (FitsRevision v) xs → AllByRecursion (FitsRevision Two) xs
fit_in_two v [] fits = tt
fit_in_two v (x ∷ xs) fits = (record { known = omega (arith, fits.0.known, last_small v); edit = fits.0.edit; root = fits.0.root; rows = fits.0.rows }, fit_in_two v xs fits.1)

pub image_in_two : (v : ImageValue) → IsImage v → IsImage (in_version_two v)
image_in_two v is = record {
  sources = is.sources;
  nodes = is.nodes;
  revisions = fit_in_two v.version v.revisions is.revisions;
  placed = is.placed;
  splices = is.splices;
  rows = is.rows;
  pool = is.pool;
  few_sources = is.few_sources;
  few_nodes = is.few_nodes;
  few_revisions = is.few_revisions;
  few_splices = is.few_splices;
  few_rows = is.few_rows;
  small_pool = is.small_pool;
  rows_counted = is.rows_counted;
  splices_counted = is.splices_counted;
}
