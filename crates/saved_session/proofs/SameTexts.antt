-- The texts and commands of a session that was taken up are the image's.
use Rattle.std.proofs.Common.{◌≡◌, ℕ, suc, List, [], ◌∷◌, map, Option, Some, refl, sym, ap, ◌∙◌}
use Rattle.std.specs.Prelude.{slice_get}
use Rattle.std.proofs.lemmas.Simd.{map-map}
use Rattle.rope_node.specs.declared.node.NodeId.{NodeId}
use Rattle.rope_node.specs.Denotes.{rope_cells, text}
use Rattle.rope_node.specs.Table.{Table}
use Rattle.command_parts.specs.declared.edit.Splice.{Splice}
use Rattle.command_parts.specs.Commands.{full_edit}
use Rattle.edit_commands.specs.declared.revision.Revision as Kept
use Rattle.edit_commands.specs.Session.{IsSession, SessionValue, command_of, commands_of, roots_of, texts_of}
use Rattle.edit_commands.proofs.RevisionSplices.{says_over_all}
use Rattle.image_reader.specs.declared.revision.Revision.{Revision}
use Rattle.image_reader.specs.Value.{ImageValue, image_table}
use Rattle.session_checker.specs.Faithful.{commands, texts}
use Rattle.session_image.specs.Written.{splices_in}
use Rattle.saved_session.specs.TakenUp.{TakesUp}

-- what is alike at each element that is found is alike on all
alike_found : {X Y : Type 0} (f g : X → Y) (xs : List X) → ((k : ℕ) (x : X) → slice_get xs k ≡ Some x → f x ≡ g x) → map f xs ≡ map g xs
alike_found f g [] each = refl
alike_found f g (x ∷ xs) each = ap (λ y. y ∷ map f xs) (each 0 x refl) ∙ ap (λ ys. g x ∷ ys) (alike_found f g xs (λ k y e. each (suc k) y e))

pub same_texts : (v : ImageValue) (s : SessionValue) (source : ℕ → ℕ → ℕ) → TakesUp v s → texts_of source s ≡ texts v source
same_texts v s source takes =
    ap (λ (t : Table). map (text source) (map (rope_cells t) (roots_of s.revisions))) takes.table
    ∙ ap (λ (rs : List (Option NodeId)). map (text source) (map (rope_cells (image_table v)) rs)) takes.roots
    ∙ ap (map (text source)) (map-map (rope_cells (image_table v)) (λ (r : Revision). r.root) v.revisions)
    ∙ map-map (text source) (λ (r : Revision). rope_cells (image_table v) r.root) v.revisions

pub same_commands : (v : ImageValue) (s : SessionValue) → IsSession s → TakesUp v s → commands_of s.revisions ≡ commands v
same_commands v s is takes =
    let over_all : commands_of s.revisions ≡ map (λ (r : Kept.Revision). full_edit (splices_in s.revisions) r.edit) s.revisions =
    alike_found command_of (λ (r : Kept.Revision). full_edit (splices_in s.revisions) r.edit) s.revisions (λ k r e. sym (says_over_all s.revisions k r e (is.each k r e).certified.names)) in
    over_all
    ∙ ap (λ (ss : List Splice). map (λ (r : Kept.Revision). full_edit ss r.edit) s.revisions) takes.splices
    ∙ sym (map-map (full_edit v.splices) (λ (r : Kept.Revision). r.edit) s.revisions)
    ∙ ap (map (full_edit v.splices)) takes.edits
    ∙ map-map (full_edit v.splices) (λ (r : Revision). r.edit) v.revisions
