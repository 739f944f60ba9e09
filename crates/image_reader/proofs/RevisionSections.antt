-- Sections of revisions, each of which knows how many splices those before it have.
use Rattle.std.proofs.Common.{◌≡◌, ℕ, zero, suc, ◌+◌, ◌*◌, ◌<◌, ◌≤◌, List, [], ◌∷◌, ◌++◌, length, take, drop, Some, None, refl, sym, ap, ◌∙◌, append_assoc, arith}
use Rattle.std.specs.Prelude.{slice_get}
use Rattle.std.specs.List.{flat_map, sum_by, AllByRecursion}
use Rattle.std.proofs.Math.Nat.{mul-suc}
use Rattle.std.proofs.lemmas.List.{take_at, drop_at, take-append-drop, drop-drop, length-take, length-drop}
use Rattle.std.proofs.lemmas.List.Sums.{sum_by-cons}
use Rattle.command_parts.specs.Fields.{splices_of}
use Rattle.image_reader.specs.declared.revision.Revision.{Revision}
use Rattle.image_reader.specs.declared.version.FormatVersion.{FormatVersion}
use Rattle.image_reader.specs.Layout.{IsBytes, records}
use Rattle.image_reader.specs.Versions.{last_code}
use Rattle.image_reader.specs.Value.{FitsRevision, ArePlaced}
use Rattle.image_reader.specs.Spelling.{revision_spelling}
use Rattle.image_reader.specs.Reading.{row_count_in, splice_count_in, revision_of, revisions_of, revision_record_fault, first_fault}
use Rattle.image_reader.proofs.Faults.{else_none}
use Rattle.image_reader.proofs.Fields.{IsBytes-drop, IsBytes-take}
use Rattle.image_reader.proofs.RevisionRecords.{revision_record, rows_read, splices_read}

abbrev pub spliced : Revision → ℕ
spliced r = splices_of r.edit

abbrev pub rows_counted : Revision → ℕ
rows_counted r = r.rows

pub length-revisions : (first n : ℕ) (bytes : List ℕ) → length (revisions_of first (records 56 n bytes)) ≡ n
unfolding records revisions_of
length-revisions first zero bytes = refl
length-revisions first (suc n) bytes = ap suc (length-revisions (first + splice_count_in (take 56 bytes)) n (drop 56 bytes))

-- ---- what they have in all

pub sum_rows : (first : ℕ) (cells : List (List ℕ)) → sum_by rows_counted (revisions_of first cells) ≡ sum_by row_count_in cells
unfolding revisions_of
sum_rows first [] = refl
sum_rows first (x ∷ xs) =
    sum_by-cons rows_counted (revision_of first x) (revisions_of (first + splice_count_in x) xs)
    ∙ rw (rows_read first x, sum_rows (first + splice_count_in x) xs) (sym (sum_by-cons row_count_in x xs))

pub sum_splices : (first : ℕ) (cells : List (List ℕ)) → sum_by spliced (revisions_of first cells) ≡ sum_by splice_count_in cells
unfolding revisions_of
sum_splices first [] = refl
sum_splices first (x ∷ xs) =
    sum_by-cons spliced (revision_of first x) (revisions_of (first + splice_count_in x) xs)
    ∙ rw (splices_read first x, sum_splices (first + splice_count_in x) xs) (sym (sum_by-cons splice_count_in x xs))

-- ---- the one at a place

pub slice_get-revisions : (first n i : ℕ) (bytes : List ℕ) → i < n → slice_get (revisions_of first (records 56 n bytes)) i ≡ Some (revision_of (first + sum_by spliced (take i (revisions_of first (records 56 n bytes)))) (take 56 (drop (56 * i) bytes)))
unfolding records revisions_of
slice_get-revisions first zero i bytes lt = absurd (omega arith)
slice_get-revisions first (suc n) zero bytes lt = ap (λ (k : ℕ). Some (revision_of k (take 56 bytes))) (omega arith)
slice_get-revisions first (suc n) (suc i) bytes lt =
    let x : List ℕ = take 56 bytes in
    let others = revisions_of (first + splice_count_in x) (records 56 n (drop 56 bytes)) in
    let here : first + splice_count_in x + sum_by spliced (take i others) ≡ first + sum_by spliced (revision_of first x ∷ take i others) = omega (arith, sum_by-cons spliced (revision_of first x) (take i others), splices_read first x) in
    slice_get-revisions (first + splice_count_in x) n i (drop 56 bytes) (omega arith)
    ∙ ap (λ (k : ℕ). Some (revision_of k (take 56 (drop (56 * i) (drop 56 bytes))))) here
    ∙ ap (λ (b : List ℕ). Some (revision_of (first + sum_by spliced (revision_of first x ∷ take i others)) (take 56 b))) (drop-drop (56 * i) 56 bytes ∙ ap (λ (k : ℕ). drop k bytes) (rw mul-suc (omega arith)))

-- ---- what has no fault is spelled as it was

pub record AreRead (version : FormatVersion) (first n : ℕ) (bytes : List ℕ) : Type 0 where
  pub fit : AllByRecursion (FitsRevision version) (revisions_of first (records 56 n bytes))
  pub placed : ArePlaced first (revisions_of first (records 56 n bytes))
  pub same : bytes ≡ flat_map revision_spelling (revisions_of first (records 56 n bytes)) ++ drop (56 * n) bytes

pub revisions_back : (version : FormatVersion) (first n : ℕ) (bytes : List ℕ) → 56 * n ≤ length bytes → IsBytes bytes → first_fault (revision_record_fault (last_code version)) (records 56 n bytes) ≡ None → AreRead version first n bytes
unfolding records revisions_of first_fault
revisions_back version first zero bytes enough h none = record { fit = tt; placed = tt; same = refl }
revisions_back version first (suc n) bytes enough h none =
    let parts = else_none _ _ none in
    let room = rw mul-suc at enough in
    let x : List ℕ = take 56 bytes in
    let next : ℕ = first + splice_count_in x in
    let len : length x ≡ 56 = omega (arith, length-take 56 bytes) in
    let one = (revision_record version first).back x len (IsBytes-take 56 bytes h) parts.0 in
    let others = revisions_back version next n (drop 56 bytes) (omega (arith, length-drop 56 bytes)) (IsBytes-drop 56 bytes h) parts.1 in
    let behind : drop (56 * n) (drop 56 bytes) ≡ drop (56 * suc n) bytes = drop-drop (56 * n) 56 bytes ∙ ap (λ (k : ℕ). drop k bytes) (rw mul-suc (omega arith)) in
    record {
      fit = (one.0.0, others.fit);
      placed = (one.0.1, rw (splices_read first x) others.placed);
      same = sym (take-append-drop 56 bytes)
          ∙ ap (λ (xs : List ℕ). xs ++ drop 56 bytes) (sym one.1)
          ∙ ap (λ (xs : List ℕ). revision_spelling (revision_of first x) ++ xs) (others.same ∙ ap (λ (xs : List ℕ). flat_map revision_spelling (revisions_of next (records 56 n (drop 56 bytes))) ++ xs) behind)
          ∙ sym (append_assoc (revision_spelling (revision_of first x)) (flat_map revision_spelling (revisions_of next (records 56 n (drop 56 bytes)))) (drop (56 * suc n) bytes));
    }

-- ---- what is spelled is read again

pub record SpellsRevisions (version : FormatVersion) (first : ℕ) (xs : List Revision) (bytes rest : List ℕ) : Type 0 where
  pub sound : first_fault (revision_record_fault (last_code version)) (records 56 (length xs) bytes) ≡ None
  pub same : revisions_of first (records 56 (length xs) bytes) ≡ xs
  pub behind : drop (56 * length xs) bytes ≡ rest

pub revisions_again : (version : FormatVersion) (first : ℕ) (xs : List Revision) (rest : List ℕ) → AllByRecursion (FitsRevision version) xs → ArePlaced first xs → SpellsRevisions version first xs (flat_map revision_spelling xs ++ rest) rest
unfolding records revisions_of first_fault
revisions_again version first [] rest fits placed = record { sound = refl; same = refl; behind = refl }
revisions_again version first (x ∷ xs) rest fits placed =
    let law = revision_record version first in
    let bytes : List ℕ = (revision_spelling x ++ flat_map revision_spelling xs) ++ rest in
    let regrouped : bytes ≡ revision_spelling x ++ (flat_map revision_spelling xs ++ rest) = append_assoc (revision_spelling x) (flat_map revision_spelling xs) rest in
    let len = law.len x (fits.0, placed.0) in
    let front : take 56 bytes ≡ revision_spelling x = ap (take 56) regrouped ∙ take_at (revision_spelling x) (flat_map revision_spelling xs ++ rest) 56 len in
    let after : drop 56 bytes ≡ flat_map revision_spelling xs ++ rest = ap (drop 56) regrouped ∙ drop_at (revision_spelling x) (flat_map revision_spelling xs ++ rest) 56 len in
    let one = law.again x (fits.0, placed.0) in
    let count : splice_count_in (revision_spelling x) ≡ splices_of x.edit = sym (splices_read first (revision_spelling x)) ∙ ap spliced one.1 in
    let others = revisions_again version (first + splices_of x.edit) xs rest fits.1 placed.1 in
    record {
      sound = rw (front, after, one.0) others.sound;
      same = rw (front, after, one.1, count, others.same) refl;
      behind = ap (λ (k : ℕ). drop k bytes) (rw mul-suc (omega arith)) ∙ sym (drop-drop (56 * length xs) 56 bytes) ∙ ap (drop (56 * length xs)) after ∙ others.behind;
    }
