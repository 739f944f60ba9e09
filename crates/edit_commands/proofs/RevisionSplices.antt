-- The splices of all revisions in one list: each revision's command says over it what it says over its own.
use Rattle.std.proofs.Common.{◌≡◌, ℕ, zero, suc, ◌+◌, List, [], ◌∷◌, ◌++◌, length, take, drop, Some, refl, sym, ap, ◌∙◌, append_assoc}
use Rattle.std.specs.Prelude.{slice_get}
use Rattle.std.specs.List.{flat_map}
use Rattle.std.proofs.lemmas.List.{length-append}
use Rattle.std.proofs.lemmas.List.Sums.{sum_by-cons}
use Rattle.std.proofs.Math.Seq.{take-append_seam, drop-append_seam}
use Rattle.command_parts.specs.declared.edit.Edit.{Edit}
use Rattle.command_parts.specs.declared.edit.Edit.TheVariants.{Many}
use Rattle.command_parts.specs.declared.edit.Splice.{Splice}
use Rattle.command_parts.specs.Commands.{full_edit, named_splices, with_splices}
use Rattle.edit_commands.specs.declared.revision.Revision.{Revision}
use Rattle.edit_commands.specs.Session.{NamesThese, command_of, splices_held}

-- all splices, the revisions' one behind the other
abbrev pub all_splices : List Revision → List Splice
all_splices revisions = flat_map (λ (r : Revision). r.splices.items) revisions

pub length-all_splices : (revisions : List Revision) → length (all_splices revisions) ≡ splices_held revisions
length-all_splices [] = refl
length-all_splices (r ∷ revisions) =
    length-append r.splices.items (all_splices revisions) ∙ ap (λ (n : ℕ). length r.splices.items + n) (length-all_splices revisions) ∙ sym (sum_by-cons (λ (v : Revision). length v.splices.items) r revisions)

-- those of one revision among them
all_around : (revisions : List Revision) (k : ℕ) (r : Revision) → slice_get revisions k ≡ Some r → all_splices revisions ≡ all_splices (take k revisions) ++ (r.splices.items ++ all_splices (drop (suc k) revisions))
all_around [] k r e = absurd cc
all_around (x ∷ revisions) zero r e = let same : x ≡ r = cc in ap (λ (v : Revision). v.splices.items ++ all_splices revisions) same
all_around (x ∷ revisions) (suc k) r e =
    ap (λ (ss : List Splice). x.splices.items ++ ss) (all_around revisions k r e)
    ∙ sym (append_assoc x.splices.items (all_splices (take k revisions)) (r.splices.items ++ all_splices (drop (suc k) revisions)))

named_among : (before own behind : List Splice) (edit : Edit) → NamesThese (length before) own edit → named_splices (before ++ (own ++ behind)) edit ≡ own
named_among before own behind (Many r first count) is =
    rw (is.0, is.1) (ap (take (length own)) (drop-append_seam before (own ++ behind)) ∙ take-append_seam own behind)
named_among before own behind other is = sym is

-- what it says over all
pub says_over_all : (revisions : List Revision) (k : ℕ) (r : Revision) → slice_get revisions k ≡ Some r → NamesThese (splices_held (take k revisions)) r.splices.items r.edit → full_edit (all_splices revisions) r.edit ≡ command_of r
says_over_all revisions k r e names =
    let before = all_splices (take k revisions) in
    let names' : NamesThese (length before) r.splices.items r.edit = rw (length-all_splices (take k revisions)) names in
    ap (λ (ss : List Splice). with_splices (named_splices ss r.edit) r.edit) (all_around revisions k r e)
    ∙ ap (λ (ss : List Splice). with_splices ss r.edit) (named_among before r.splices.items (all_splices (drop (suc k) revisions)) r.edit names')
