-- What is known of an accepted image's commands and texts.
use Rattle.std.proofs.Common.{◌≡◌, ℕ, ◌<◌, List, length, Option, Ok, refl, sym, subst, ◌∙◌, arith}
use Rattle.std.specs.Prelude.{All}
use Rattle.std.proofs.lemmas.List.{length-map, get_or-map}
use Rattle.std.proofs.lemmas.Option.{slice_get-get_or, slice_get_within}
use Rattle.lazy_file.specs.SourceTexts.{Stated}
use Rattle.lazy_file.specs.Readings.{Reading}
use Rattle.rope_node.specs.declared.node.NodeId.{NodeId}
use Rattle.rope_node.specs.Table.{Table}
use Rattle.rope_node.specs.Denotes.{rope_cells, text}
use Rattle.command_parts.specs.Commands.{FullEdit, New, Open, Insert, Delete, Replace, Paste, Join, Cut, Fill, Back, Balance, Many, full_edit, IsHistory}
use Rattle.span_certificate.specs.Covers.{SameOver}
use Rattle.command_parts.specs.Parts.{IsInRange, len_of}
use Rattle.command_parts.proofs.SplicedTexts.{are_splices}
use Rattle.image_reader.specs.declared.revision.Revision.{Revision}
use Rattle.image_reader.specs.Value.{FitsRevision, ImageValue, IsImage, image_table}
use Rattle.image_reader.specs.Accepted.{command_at, no_revision, revision_at, roots_before}
use Rattle.image_reader.proofs.Cutting.{all_at}
use Rattle.session_checker.specs.Faithful.{EachRevision, IsFaithful, commands, givens, texts}
use Rattle.session_checker.specs.Limits.{ChecksWithin}
use Rattle.session_checker.specs.RevisionRules.{AreGoodOver, HasSameBytes}
use Rattle.session_checker.proofs.ExactAnswers.{same_image}
use Rattle.edit_script.specs.Commands.{IsPrintable, StandsInside, words_of}
use Rattle.script_tools.proofs.Printables.{printable}

-- a command in range names bytes of the pool
stands_inside : (t : Table) (roots : List (Option NodeId)) (e : FullEdit) → IsInRange t roots e → StandsInside (length t.pool) e
stands_inside t roots New range = tt
stands_inside t roots (Open s) range = tt
stands_inside t roots (Insert r p a n) range = range.3
stands_inside t roots (Delete r p n) range = tt
stands_inside t roots (Replace r p m a n) range = range.3
stands_inside t roots (Paste r p q i n) range = tt
stands_inside t roots (Join r q) range = tt
stands_inside t roots (Cut r i n) range = tt
stands_inside t roots (Fill r p c n) range = tt
stands_inside t roots (Back r) range = tt
stands_inside t roots (Balance r) range = tt
stands_inside t roots (Many r splices) range = (are_splices (length t.pool) (len_of t roots r) splices range.1).pooled

-- what is accepted keeps the rules
pub keeps_rules : (at_most : Option ℕ) (old new : Reading) (bytes : List ℕ) (v : ImageValue) → ChecksWithin at_most old new bytes (Ok v) → AreGoodOver v old.stated
keeps_rules at_most old new bytes v checked =
    let accepted = checked.accepted refl in
    let same : accepted.v ≡ v = same_image accepted.v v accepted.image checked.image.0 (sym accepted.spelled ∙ checked.image.1) in
    subst (λ (w : ImageValue). AreGoodOver w old.stated) same accepted.revisions

pub each_inside : (v : ImageValue) (st : Stated) → AreGoodOver v st → EachRevision v (λ k. StandsInside (length v.pool) (command_at v k))
each_inside v st good k lt = stands_inside (image_table v) (roots_before v k) (command_at v k) (good k lt).rules.command

pub each_printable : (v : ImageValue) (st : Stated) → IsImage v → AreGoodOver v st → EachRevision v (λ k. IsPrintable (words_of v.pool (command_at v k)))
each_printable v st is good k lt =
    let fits = all_at (FitsRevision v.version) v.revisions k (revision_at v k) is.revisions (slice_get-get_or v.revisions k no_revision lt) in
    printable v.pool v.splices (image_table v) (roots_before v k) (revision_at v k).edit is.pool is.splices fits.edit (good k lt).rules.command

pub all_inside : (v : ImageValue) → EachRevision v (λ k. StandsInside (length v.pool) (command_at v k)) → All (StandsInside (length v.pool)) (commands v)
all_inside v each k d lt =
    let said : Revision → FullEdit = λ (r : Revision). full_edit v.splices r.edit in
    let there : k < length v.revisions = omega (arith, lt, length-map v.revisions said) in
    subst (StandsInside (length v.pool)) (sym (get_or-map said v.revisions k no_revision d there)) (each k there)

-- its texts are the history of its commands, over sources over which its rows of bytes hold
pub history : (v : ImageValue) (st : Stated) (source : ℕ → ℕ → ℕ) → IsFaithful v st → EachRevision v (HasSameBytes v (SameOver source)) → IsHistory (givens v source) (commands v) (texts v source)
history v st source faithful same =
    let said : Revision → FullEdit = λ (r : Revision). full_edit v.splices r.edit in
    let shows : Revision → List ℕ = λ (r : Revision). text source (rope_cells (image_table v) r.root) in
    record {
      whole = length-map v.revisions shows ∙ sym (length-map v.revisions said);
      each = λ k command is.
          let there : k < length v.revisions = omega (arith, slice_get_within (commands v) k command is, length-map v.revisions said) in
          (faithful.each_text source k there (same k there)).gives command is;
    }
