-- What is handed to a turn of taking up is the image's own.
use Rattle.std.proofs.Common.{◌≡◌, ℕ, ◌+◌, ◌<◌, ◌≤◌, List, length, take, drop, ap, ◌∙◌, arith}
use Rattle.std.proofs.lemmas.List.{length-take, length-drop}
use Rattle.command_parts.specs.declared.edit.Splice.{Splice}
use Rattle.command_parts.specs.declared.edit.TheConstants.{SPLICES_LIMIT}
use Rattle.command_parts.specs.declared.part.Part.{Part}
use Rattle.span_certificate.specs.declared.row.Row.{Row}
use Rattle.command_parts.specs.Commands.{full_edit, named_splices}
use Rattle.command_parts.specs.Fields.{splices_of, IsPlacedAt}
use Rattle.command_parts.specs.Parts.{parts_of}
use Rattle.edit_commands.specs.Session.{SessionValue, splices_held}
use Rattle.image_reader.specs.declared.revision.Revision.{Revision}
use Rattle.image_reader.specs.Value.{ImageValue, IsImage, image_table}
use Rattle.image_reader.specs.Accepted.{parts_at, revision_at, roots_before, rows_at, rows_before, splices_before}
use Rattle.session_checker.proofs.EarlierRevisions.{splices_inside}
use Rattle.saved_session.specs.TakenUp.{TakesFirst}
use Rattle.saved_session.proofs.TakenRevisions.{own_are, splices_so_far}

module _ (v : ImageValue) (k : ℕ) (w : ImageValue) (same : w ≡ v) (r : Revision) (at : r ≡ revision_at w k) where
  pub revision_is : r ≡ revision_at v k
  revision_is = at ∙ ap (λ (x : ImageValue). revision_at x k) same

  pub rows_are : (rows : List Row) (u : ImageValue) (from count : ℕ) → rows ≡ take count (drop from u.rows) → u ≡ w → from ≡ rows_before v k → count ≡ r.rows → rows ≡ rows_at v k
  rows_are rows u from count is image place many =
      is ∙ ap (λ (x : ImageValue). take count (drop from x.rows)) (image ∙ same)
      ∙ ap (λ (n : ℕ). take count (drop n v.rows)) place
      ∙ ap (λ (n : ℕ). take n (drop (rows_before v k) v.rows)) (many ∙ ap (λ (x : Revision). x.rows) (at ∙ ap (λ (x : ImageValue). revision_at x k) same))

  pub parts_are : (parts : List Part) (u : ImageValue) (j : ℕ) → parts ≡ parts_of (image_table v) (roots_before u j) (full_edit w.splices r.edit) → u ≡ w → j ≡ k → parts ≡ parts_at v k
  parts_are parts u j is image number =
      is ∙ ap (λ (x : ImageValue). parts_of (image_table v) (roots_before x j) (full_edit w.splices r.edit)) (image ∙ same)
      ∙ ap (λ (n : ℕ). parts_of (image_table v) (roots_before v n) (full_edit w.splices r.edit)) number
      ∙ ap (λ (x : ImageValue). parts_of (image_table v) (roots_before v k) (full_edit x.splices r.edit)) same
      ∙ ap (λ (x : Revision). parts_of (image_table v) (roots_before v k) (full_edit v.splices x.edit)) (at ∙ ap (λ (x : ImageValue). revision_at x k) same)

  pub splices_are : (splices : List Splice) → splices ≡ named_splices w.splices r.edit → splices ≡ named_splices v.splices (revision_at v k).edit
  splices_are splices is =
      is ∙ ap (λ (x : ImageValue). named_splices x.splices r.edit) same ∙ ap (λ (x : Revision). named_splices v.splices x.edit) (at ∙ ap (λ (x : ImageValue). revision_at x k) same)

-- there is room for its splices
pub splices_few : (v : ImageValue) → IsImage v → (k : ℕ) → k < length v.revisions → IsPlacedAt (splices_before v k) (revision_at v k).edit → (old : SessionValue) → TakesFirst v k old → (splices : List Splice) → splices ≡ named_splices v.splices (revision_at v k).edit → splices_held old.revisions + length splices ≤ SPLICES_LIMIT
splices_few v is k lt place old takes splices named =
    let many : length splices ≡ length (take (splices_of (revision_at v k).edit) (drop (splices_before v k) v.splices)) = ap length (named ∙ own_are (splices_before v k) v.splices (revision_at v k).edit place) in
    omega (arith, many, splices_so_far v is k lt place old takes, length-take (splices_of (revision_at v k).edit) (drop (splices_before v k) v.splices), length-drop (splices_before v k) v.splices, splices_inside v is k lt, is.few_splices)
