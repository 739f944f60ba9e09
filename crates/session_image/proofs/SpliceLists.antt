-- The splices of revisions, one revision's behind the other's.
use Rattle.std.proofs.Common.{◌≡◌, ℕ, suc, ◌+◌, ◌≤◌, List, [], ◌∷◌, ◌++◌, length, map, take, drop, Option, Some, refl, sym, ap, subst, ◌∙◌, arith}
use Rattle.std.specs.Prelude.{slice_get}
use Rattle.std.specs.Option.{option_map}
use Rattle.std.specs.List.{flat_map, sum_by, AllByRecursion}
use Rattle.std.proofs.lemmas.List.{append-nil, length-append}
use Rattle.std.proofs.lemmas.List.Sums.{sum_by-cons}
use Rattle.command_parts.specs.declared.edit.Edit.{Edit}
use Rattle.command_parts.specs.declared.edit.Edit.TheVariants.{Many, New}
use Rattle.command_parts.specs.declared.edit.Splice.{Splice}
use Rattle.command_parts.specs.Fields.{splices_of, IsPlacedAt}
use Rattle.edit_commands.specs.declared.revision.Revision.{Revision}
use Rattle.edit_commands.specs.Session.{splices_held, NamesThese}
use Rattle.edit_commands.proofs.RevisionSplices.{length-all_splices}
use Rattle.image_reader.specs.declared.revision.Revision as Recorded
use Rattle.image_reader.specs.Spelling.{splice_spelling}
use Rattle.image_reader.specs.Value.{ArePlaced, FitsSplice}
use Rattle.session_image.specs.Written.{recorded_revision, splices_in, splices_or_none}
use Rattle.session_image.proofs.Sections.{take_next, split_at, flat_map-behind, all_behind}

abbrev pub splices_kept : Revision → List Splice
splices_kept r = r.splices.items

abbrev pub splices_spelling : Revision → List ℕ
splices_spelling r = flat_map splice_spelling r.splices.items

pub found_splices : (revisions : List Revision) (k : ℕ) (r : Revision) → slice_get revisions k ≡ Some r → splices_or_none (option_map (λ (r : Revision). r.splices.items) (slice_get revisions k)) ≡ r.splices.items
found_splices revisions k r e = ap (λ (x : Option Revision). splices_or_none (option_map (λ (r : Revision). r.splices.items) x)) e

pub splices_to_next : (revisions : List Revision) (k : ℕ) (r : Revision) → slice_get revisions k ≡ Some r → splices_in (take (k + 1) revisions) ≡ splices_in (take k revisions) ++ r.splices.items
splices_to_next revisions k r e =
    let next : k + 1 ≡ suc k = omega arith in
    ap (λ (n : ℕ). splices_in (take n revisions)) next ∙ ap splices_in (take_next revisions k r e) ∙ flat_map-behind splices_kept (take k revisions) (r ∷ []) ∙ ap (λ v. splices_in (take k revisions) ++ v) (append-nil r.splices.items)

pub splices_fit_more : (revisions : List Revision) (k : ℕ) (r : Revision) → slice_get revisions k ≡ Some r → AllByRecursion FitsSplice (splices_in (take k revisions)) → AllByRecursion FitsSplice r.splices.items → AllByRecursion FitsSplice (splices_in (take (k + 1) revisions))
splices_fit_more revisions k r e h more = subst (AllByRecursion FitsSplice) (sym (splices_to_next revisions k r e)) (all_behind FitsSplice (splices_in (take k revisions)) r.splices.items h more)

pub length-splices : (revisions : List Revision) → length (splices_in revisions) ≡ splices_held revisions
length-splices revisions = length-all_splices revisions

-- the splices up to a revision and its own are some of all
pub splices_up_to : (revisions : List Revision) (k : ℕ) (r : Revision) → slice_get revisions k ≡ Some r → length (splices_in (take k revisions)) + length r.splices.items ≤ length (splices_in revisions)
splices_up_to revisions k r e =
    let whole : length (splices_in revisions) ≡ length (splices_in (take k revisions)) + (length r.splices.items + length (splices_in (drop (suc k) revisions))) = ap (λ v. length (splices_in v)) (split_at revisions k r e) ∙ ap length (flat_map-behind splices_kept (take k revisions) (r ∷ drop (suc k) revisions)) ∙ length-append (splices_in (take k revisions)) (r.splices.items ++ splices_in (drop (suc k) revisions)) ∙ ap (λ (n : ℕ). length (splices_in (take k revisions)) + n) (length-append r.splices.items (splices_in (drop (suc k) revisions))) in
    omega (arith, whole)

-- ---- as they are recorded

-- a command has as many splices as it names, and they begin behind those of the revisions before it
one_named : (earlier : ℕ) (splices : List Splice) (e : Edit) → NamesThese earlier splices e → IsPlacedAt earlier e × (splices_of e ≡ length splices)
one_named earlier splices (Many r first count) is = is
one_named earlier splices New is = (tt, rw is refl)
one_named earlier splices _ is = (tt, rw is refl)

-- each names its own
abbrev pub NameOwn : ℕ → List Revision → Type 0
NameOwn earlier [] = Unit {0}
NameOwn earlier (r ∷ rs) = NamesThese earlier r.splices.items r.edit × NameOwn (earlier + length r.splices.items) rs

pub name_own : (before revisions : List Revision) → ((k : ℕ) (r : Revision) → slice_get revisions k ≡ Some r → NamesThese (splices_held (before ++ take k revisions)) r.splices.items r.edit) → NameOwn (splices_held before) revisions
name_own before [] each = tt
name_own before (r ∷ rs) each =
    let alone : splices_held (before ++ []) ≡ splices_held before = ap splices_held (append-nil before) in
    let first = subst (λ (n : ℕ). NamesThese n r.splices.items r.edit) alone (each 0 r refl) in
    let more : splices_held (before ++ (r ∷ [])) ≡ splices_held before + length r.splices.items =
    sym (length-all_splices (before ++ (r ∷ []))) ∙ ap length (flat_map-behind splices_kept before (r ∷ [])) ∙ length-append (splices_in before) (r.splices.items ++ []) ∙ ap (λ (ss : List Splice). length (splices_in before) + length ss) (append-nil r.splices.items) ∙ ap (λ (n : ℕ). n + length r.splices.items) (length-all_splices before) in
    let others = name_own (before ++ (r ∷ [])) rs (λ k x e. subst (λ (bs : List Revision). NamesThese (splices_held bs) x.splices.items x.edit) (sym (assoc before r (take k rs))) (each (suc k) x e)) in
    (first, subst (λ (n : ℕ). NameOwn n rs) more others)
  where
    assoc : (before : List Revision) (r : Revision) (xs : List Revision) → (before ++ (r ∷ [])) ++ xs ≡ before ++ (r ∷ xs)
    assoc [] r xs = refl
    assoc (b ∷ before) r xs = ap (λ (v : List Revision). b ∷ v) (assoc before r xs)

pub placed_so : (earlier : ℕ) (revisions : List Revision) → NameOwn earlier revisions → ArePlaced earlier (map recorded_revision revisions) × (sum_by (λ (x : Recorded.Revision). splices_of x.edit) (map recorded_revision revisions) ≡ splices_held revisions)
placed_so earlier [] names = (tt, refl)
placed_so earlier (r ∷ rs) names =
    let one = one_named earlier r.splices.items r.edit names.0 in
    let others = placed_so (earlier + length r.splices.items) rs names.1 in (
      (one.0, subst (λ (n : ℕ). ArePlaced (earlier + n) (map recorded_revision rs)) (sym one.1) others.0),
      sum_by-cons (λ (x : Recorded.Revision). splices_of x.edit) (recorded_revision r) (map recorded_revision rs) ∙ rw (one.1, others.1) (sym (sum_by-cons (λ (x : Revision). length x.splices.items) r rs)),
    )
