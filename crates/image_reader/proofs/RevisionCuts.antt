-- Single revisions of an image, each read from its record.
use Rattle.std.proofs.Common.{◌≡◌, ℕ, suc, ◌+◌, ◌*◌, ◌<◌, ◌≤◌, List, length, take, drop, Some, refl, sym, ap, ◌∙◌, arith, zero-add}
use Rattle.std.specs.Prelude.{slice_get}
use Rattle.std.proofs.Math.Nat.{mul-suc, mul-le-mul_left}
use Rattle.std.proofs.lemmas.Option.{get_or_from_slice_get}
use Rattle.image_reader.specs.declared.revision.Revision.{Revision}
use Rattle.image_reader.specs.Layout.{records}
use Rattle.image_reader.specs.Value.{ImageValue}
use Rattle.image_reader.specs.Accepted.{no_revision, revision_at, splices_before}
use Rattle.image_reader.specs.Reading.{is_marked, root_in, splice_count_in, revision_of, revisions_of}
use Rattle.command_parts.specs.Fields.{splices_of}
use Rattle.image_reader.proofs.RevisionRecords.{splices_read}
use Rattle.image_reader.proofs.RevisionSections.{length-revisions, slice_get-revisions}

-- the revisions of an image are what their records say
pub record AreCut (count : ℕ) (bytes : List ℕ) (v : ImageValue) : Type 0 where
  pub counted : count ≡ length v.revisions
  pub inside : (k : ℕ) → k < length v.revisions → 56 * k + 56 ≤ length bytes
  pub holds : (k : ℕ) → k < length v.revisions → slice_get v.revisions k ≡ Some (revision_of (splices_before v k) (take 56 (drop (56 * k) bytes)))

pub revisions_cut : (count : ℕ) (bytes : List ℕ) (v : ImageValue) → revisions_of 0 (records 56 count bytes) ≡ v.revisions → 56 * count ≤ length bytes → AreCut count bytes v
revisions_cut count bytes v same enough =
    let counted : count ≡ length v.revisions = sym (length-revisions 0 count bytes) ∙ ap length same in
    record {
      counted = counted;
      inside = λ k lt. let below : suc k ≤ count = omega (arith, counted) in omega (arith, mul-suc 56 k, mul-le-mul_left 56 below, enough);
      holds = λ k lt. let there : k < count = omega (arith, counted) in
          let got : slice_get v.revisions k ≡ Some (revision_of (0 + splices_before v k) (take 56 (drop (56 * k) bytes))) = rw same at (slice_get-revisions 0 count k bytes there) in
          got ∙ ap (λ (n : ℕ). Some (revision_of n (take 56 (drop (56 * k) bytes)))) (zero-add (splices_before v k));
    }

module _ (count : ℕ) (bytes : List ℕ) (v : ImageValue) (c : AreCut count bytes v) (k : ℕ) (lt : k < length v.revisions) (cell : List ℕ) (is : cell ≡ take 56 (drop (56 * k) bytes)) where
  pub revision_read : (first : ℕ) → first ≡ splices_before v k → slice_get v.revisions k ≡ Some (revision_of first cell)
  revision_read first place = c.holds k lt ∙ ap (λ (b : List ℕ). Some (revision_of (splices_before v k) b)) (sym is) ∙ ap (λ (n : ℕ). Some (revision_of n cell)) (sym place)

  pub revision_read_at : (first : ℕ) → first ≡ splices_before v k → revision_of first cell ≡ revision_at v k
  revision_read_at first place = sym (get_or_from_slice_get v.revisions k (revision_of first cell) no_revision (revision_read first place))

  pub root_read : root_in cell ≡ (revision_at v k).root
  unfolding revision_of
  root_read = ap (λ (r : Revision). r.root) (revision_read_at (splices_before v k) refl)

  pub mark_read : is_marked cell ≡ (revision_at v k).mark
  unfolding revision_of
  mark_read = ap (λ (r : Revision). r.mark) (revision_read_at (splices_before v k) refl)

  pub splices_counted : splice_count_in cell ≡ splices_of (revision_at v k).edit
  splices_counted = sym (splices_read (splices_before v k) cell) ∙ ap (λ (r : Revision). splices_of r.edit) (revision_read_at (splices_before v k) refl)
