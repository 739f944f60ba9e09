-- The revisions before one: their roots, and how many rows they have.
use Rattle.std.proofs.Common.{◌≡◌, ℕ, zero, suc, ◌+◌, ◌<◌, ◌≤◌, List, [], ◌∷◌, length, map, take, get_or, Option, None, refl, sym, subst, arith}
use Rattle.std.proofs.lemmas.List.{length-map, length-take}
use Rattle.std.specs.List.{sum_by}
use Rattle.std.proofs.lemmas.List.Sums.{sum_by-cons, sum_by_more, sum_by_more_le}
use Rattle.rope_node.specs.declared.node.NodeId.{NodeId}
use Rattle.rope_node.specs.Denotes.{IsRope}
use Rattle.command_parts.specs.Parts.{AreRopes}
use Rattle.image_reader.specs.declared.revision.Revision.{Revision}
use Rattle.command_parts.specs.declared.edit.Edit.{Edit}
use Rattle.command_parts.specs.declared.edit.Edit.TheVariants.{Many, New}
use Rattle.command_parts.specs.declared.edit.Splice.{Splice}
use Rattle.command_parts.specs.declared.edit.TheConstants.{SPLICES_LIMIT}
use Rattle.command_parts.specs.Commands.{NamesSplices}
use Rattle.image_reader.specs.Value.{ArePlaced, ImageValue, IsImage, image_table}
use Rattle.image_reader.specs.Accepted.{no_revision, revision_at, roots_before, rows_before, splices_before}
use Rattle.command_parts.specs.Fields.{splices_of, IsPlacedAt}

-- the rows of a revision lie inside the image's
pub rows_inside : (v : ImageValue) → IsImage v → (k : ℕ) → k < length v.revisions → rows_before v k + (revision_at v k).rows ≤ length v.rows
rows_inside v is k lt =
    let within = sum_by_more_le (λ (x : Revision). x.rows) v.revisions k no_revision lt in
    omega (arith, is.rows_counted, within)

pub rows_before_more : (v : ImageValue) (k : ℕ) → k < length v.revisions → rows_before v (k + 1) ≡ rows_before v k + (revision_at v k).rows
rows_before_more v k lt = sum_by_more (λ (x : Revision). x.rows) v.revisions k no_revision lt

-- the splices of a revision lie inside the image's
pub splices_inside : (v : ImageValue) → IsImage v → (k : ℕ) → k < length v.revisions → splices_before v k + splices_of (revision_at v k).edit ≤ length v.splices
splices_inside v is k lt =
    let within = sum_by_more_le (λ (x : Revision). splices_of x.edit) v.revisions k no_revision lt in
    omega (arith, is.splices_counted, within)

pub splices_before_more : (v : ImageValue) (k : ℕ) → k < length v.revisions → splices_before v (k + 1) ≡ splices_before v k + splices_of (revision_at v k).edit
splices_before_more v k lt = sum_by_more (λ (x : Revision). splices_of x.edit) v.revisions k no_revision lt

-- the root of a revision before k
pub root_before : (v : ImageValue) (k r : ℕ) → r < k → get_or (roots_before v k) r None ≡ (revision_at v r).root
root_before v k r lt = among v.revisions k r lt
  where
    root : Revision → Option NodeId
    root r = r.root

    among : (rs : List Revision) (k r : ℕ) → r < k → get_or (map root (take k rs)) r None ≡ root (get_or rs r no_revision)
    among rs zero r lt = absurd (omega arith)
    among [] (suc k) r lt = refl
    among (x ∷ rs) (suc k) zero lt = refl
    among (x ∷ rs) (suc k) (suc r) lt = among rs k r (omega arith)

-- the roots before k are ropes where those revisions have good ones
pub earlier_ropes : (v : ImageValue) (k : ℕ) → ((c : ℕ) → c < k → IsRope (image_table v) (revision_at v c).root) → AreRopes (image_table v) (roots_before v k)
earlier_ropes v k ropes r lt =
    let before : r < k = omega (arith, lt, length-map (take k v.revisions) (λ (x : Revision). x.root), length-take k v.revisions) in
    subst (IsRope (image_table v)) (sym (root_before v k r before)) (ropes r before)

-- ---- the splices that a revision's command names

pub placed_at : (first : ℕ) (rs : List Revision) (k : ℕ) → ArePlaced first rs → k < length rs → IsPlacedAt (first + sum_by (λ (x : Revision). splices_of x.edit) (take k rs)) (get_or rs k no_revision).edit
placed_at first [] k placed lt = absurd (omega (arith, lt))
placed_at first (r ∷ rs) zero placed lt = let same : first ≡ first + 0 = omega arith in subst (λ (n : ℕ). IsPlacedAt n r.edit) same placed.0
placed_at first (r ∷ rs) (suc k) placed lt =
    let sum = sum_by-cons (λ (x : Revision). splices_of x.edit) r (take k rs) in
    let same : (first + splices_of r.edit) + sum_by (λ (x : Revision). splices_of x.edit) (take k rs) ≡ first + sum_by (λ (x : Revision). splices_of x.edit) (r ∷ take k rs) = omega (arith, sum) in
    subst (λ (n : ℕ). IsPlacedAt n (get_or rs k no_revision).edit) same (placed_at (first + splices_of r.edit) rs k placed.1 (omega (arith, lt)))

names_at : (all : List Splice) (place : ℕ) (e : Edit) → IsPlacedAt place e → place + splices_of e ≤ length all → length all ≤ SPLICES_LIMIT → NamesSplices all e
names_at all place (Many r first count) is within few = (omega (arith, is, within), omega (arith, is, within, few))
names_at all place New is within few = tt
names_at all place _ is within few = tt

-- they are splices of the image
pub names_there : (v : ImageValue) → IsImage v → (k : ℕ) → k < length v.revisions → NamesSplices v.splices (revision_at v k).edit
names_there v is k lt =
    let none : 0 + splices_before v k ≡ splices_before v k = omega arith in
    names_at v.splices (splices_before v k) (revision_at v k).edit (subst (λ (n : ℕ). IsPlacedAt n (revision_at v k).edit) none (placed_at 0 v.revisions k is.placed lt)) (splices_inside v is k lt) is.few_splices
