-- A session that goes further than the one of an image keeps its texts.
use Rattle.std.proofs.Common.{◌≡◌, ℕ, List, ◌++◌, length, map, take, Option, ap, ◌∙◌}
use Rattle.std.proofs.lemmas.List.{length-map, map-append, take_at}
use Rattle.rope_node.specs.declared.node.NodeId.{NodeId}
use Rattle.rope_node.specs.Denotes.{rope_cells, text}
use Rattle.edit_commands.specs.Session.{SessionValue, roots_of, session_table, texts_of}
use Rattle.image_reader.specs.declared.revision.Revision.{Revision}
use Rattle.image_reader.specs.Value.{ImageValue}
use Rattle.session_checker.specs.Faithful.{texts}
use Rattle.saved_session.specs.TakenUp.{TakesUp}
use Rattle.saved_session.specs.GoneFurther.{GoesFurther}
use Rattle.saved_session.proofs.SameTexts.{same_texts}
use Rattle.saved_session.proofs.FurtherSessions.{roots_further}

pub earlier_texts : (v : ImageValue) (begun made : SessionValue) (source : ℕ → ℕ → ℕ) → TakesUp v begun → GoesFurther begun made → take (length v.revisions) (texts_of source made) ≡ texts v source
earlier_texts v begun made source takes x =
    let cells = rope_cells (session_table made) in
    let shows = text source in
    let front = map shows (map cells (roots_of begun.revisions)) in
    let rest = map shows (map cells (roots_of x.more)) in
    let whole : texts_of source made ≡ front ++ rest =
    ap (λ (rs : List (Option NodeId)). map shows (map cells rs)) (roots_further x)
    ∙ ap (map shows) (map-append cells (roots_of begun.revisions) (roots_of x.more))
    ∙ map-append shows (map cells (roots_of begun.revisions)) (map cells (roots_of x.more)) in
    let many : length front ≡ length v.revisions =
    length-map (map cells (roots_of begun.revisions)) shows ∙ length-map (roots_of begun.revisions) cells
    ∙ ap length takes.roots ∙ length-map v.revisions (λ (r : Revision). r.root) in
    ap (take (length v.revisions)) whole ∙ take_at front rest (length v.revisions) many
    ∙ ap (map shows) x.keeps.cells ∙ same_texts v begun source takes
