-- The rows of revisions, one revision's behind the other's.
use Rattle.std.proofs.Common.{◌≡◌, ℕ, zero, suc, ◌+◌, ◌≤◌, List, [], ◌∷◌, ◌++◌, length, map, take, drop, Option, Some, None, refl, sym, ap, subst, ◌∙◌, arith}
use Rattle.std.specs.Prelude.{slice_get}
use Rattle.std.specs.Option.{option_map}
use Rattle.std.specs.List.{flat_map, AllByRecursion}
use Rattle.std.proofs.lemmas.List.{append-nil, length-append}
use Rattle.std.proofs.lemmas.List.Sums.{sum_by-cons}
use Rattle.span_certificate.specs.declared.row.Row.{Row}
use Rattle.edit_commands.specs.declared.revision.Revision.{Revision}
use Rattle.edit_commands.specs.Session.{rows_held, edits_of}
use Rattle.image_reader.specs.Spelling.{row_spelling}
use Rattle.image_reader.specs.Value.{FitsRow}
use Rattle.std.proofs.Common.{get_or, inl, inr}
use Rattle.std.proofs.lemmas.Bool.{cases_lt}
use Rattle.command_parts.specs.declared.edit.Edit.{Edit}
use Rattle.command_parts.specs.declared.edit.Edit.TheVariants.{New}
use Rattle.command_parts.specs.Fields.{FitsRecord}
use Rattle.image_reader.specs.declared.revision.Revision as Recorded
use Rattle.session_image.specs.Written.{EditsFit, recorded_revision, rows_in, rows_or_none}
use Rattle.session_image.proofs.Sections.{take_next, split_at, flat_map-behind, all_behind}

abbrev pub rows_kept : Revision → List Row
rows_kept r = r.rows.items

abbrev pub rows_spelling : Revision → List ℕ
rows_spelling r = flat_map row_spelling r.rows.items

pub found_rows : (revisions : List Revision) (k : ℕ) (r : Revision) → slice_get revisions k ≡ Some r → rows_or_none (option_map (λ (r : Revision). r.rows.items) (slice_get revisions k)) ≡ r.rows.items
found_rows revisions k r e = ap (λ (x : Option Revision). rows_or_none (option_map (λ (r : Revision). r.rows.items) x)) e

pub rows_to_next : (revisions : List Revision) (k : ℕ) (r : Revision) → slice_get revisions k ≡ Some r → rows_in (take (k + 1) revisions) ≡ rows_in (take k revisions) ++ r.rows.items
rows_to_next revisions k r e =
    let next : k + 1 ≡ suc k = omega arith in
    ap (λ (n : ℕ). rows_in (take n revisions)) next ∙ ap rows_in (take_next revisions k r e) ∙ flat_map-behind rows_kept (take k revisions) (r ∷ []) ∙ ap (λ v. rows_in (take k revisions) ++ v) (append-nil r.rows.items)

pub rows_fit_more : (revisions : List Revision) (k : ℕ) (r : Revision) → slice_get revisions k ≡ Some r → AllByRecursion FitsRow (rows_in (take k revisions)) → AllByRecursion FitsRow r.rows.items → AllByRecursion FitsRow (rows_in (take (k + 1) revisions))
rows_fit_more revisions k r e h more = subst (AllByRecursion FitsRow) (sym (rows_to_next revisions k r e)) (all_behind FitsRow (rows_in (take k revisions)) r.rows.items h more)

pub length-rows : (revisions : List Revision) → length (rows_in revisions) ≡ rows_held revisions
length-rows [] = refl
length-rows (r ∷ rs) = length-append r.rows.items (rows_in rs) ∙ ap (λ (n : ℕ). length r.rows.items + n) (length-rows rs) ∙ sym (sum_by-cons (λ (r : Revision). length r.rows.items) r rs)

edit_or_new : Option Recorded.Revision → Edit
edit_or_new None = New
edit_or_new (Some r) = r.edit

edit_found : (revisions : List Revision) (k : ℕ) (r : Recorded.Revision) → slice_get (map recorded_revision revisions) k ≡ Some r → get_or (edits_of revisions) k New ≡ r.edit
unfolding edit_or_new
edit_found [] k r e = absurd cc
edit_found (x ∷ xs) zero r e = ap edit_or_new e
edit_found (x ∷ xs) (suc k) r e = edit_found xs k r e

pub edits_fit_more : (revisions : List Revision) (k : ℕ) (r : Recorded.Revision) → slice_get (map recorded_revision revisions) k ≡ Some r → EditsFit revisions k → FitsRecord r.edit → EditsFit revisions (k + 1)
edits_fit_more revisions k r e h more i lt =
    elim (cases_lt i k) [
      | inl before ↦ h i before
      | inr behind ↦ let same : i ≡ k = omega arith in rw (same, edit_found revisions k r e) more
    ]

-- the rows up to a revision and its own are some of all
pub rows_up_to : (revisions : List Revision) (k : ℕ) (r : Revision) → slice_get revisions k ≡ Some r → length (rows_in (take k revisions)) + length r.rows.items ≤ length (rows_in revisions)
rows_up_to revisions k r e =
    let whole : length (rows_in revisions) ≡ length (rows_in (take k revisions)) + (length r.rows.items + length (rows_in (drop (suc k) revisions))) = ap (λ v. length (rows_in v)) (split_at revisions k r e) ∙ ap length (flat_map-behind rows_kept (take k revisions) (r ∷ drop (suc k) revisions)) ∙ length-append (rows_in (take k revisions)) (r.rows.items ++ rows_in (drop (suc k) revisions)) ∙ ap (λ (n : ℕ). length (rows_in (take k revisions)) + n) (length-append r.rows.items (rows_in (drop (suc k) revisions))) in
    omega (arith, whole)

pub rows_few : (revisions : List Revision) (k : ℕ) (r : Revision) → slice_get revisions k ≡ Some r → length r.rows.items ≤ rows_held revisions
rows_few revisions k r e = omega (arith, rows_up_to revisions k r e, length-rows revisions)

-- so are those of one revision
pub few_of : (revisions : List Revision) (k : ℕ) (rows : List Row) → Some rows ≡ option_map (λ (r : Revision). r.rows.items) (slice_get revisions k) → length rows ≤ rows_held revisions
few_of [] k rows e = absurd cc
few_of (r ∷ rs) zero rows e = let same : rows ≡ r.rows.items = cc in omega (arith, ap length same, sum_by-cons (λ (r : Revision). length r.rows.items) r rs)
few_of (r ∷ rs) (suc k) rows e = omega (arith, few_of rs k rows e, sum_by-cons (λ (r : Revision). length r.rows.items) r rs)
