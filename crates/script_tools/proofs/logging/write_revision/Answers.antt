use Rattle.std.proofs.Common.{[], ◌∷◌, ◌++◌, ◌∙◌, ap, refl, subst, sym}
use Rattle.std.specs.Io.KnownBytes.{Appends}
use Rattle.byte_output.specs.Prefix.{AppendsPrefix}
use Rattle.command_parts.specs.Commands.{NamesSplices, full_edit}
use Rattle.image_reader.specs.declared.revision.Revision.{Revision}
use Rattle.image_reader.specs.Value.{ImageValue, IsImage}
use Rattle.image_reader.specs.Accepted.{command_at}
use Rattle.session_checker.proofs.EarlierRevisions.{names_there}
use Rattle.edit_script.specs.Scripts.{Noted, comment_of}
use Rattle.session_image.proofs.Sections.{appends_nothing}
use Rattle.script_tools.specs.Logged.{noted_of, revision_line, shown_command}
use Rattle.script_tools.proofs.Pieces.{front_alone, front_and_part, stopped, then_last, writes_same}
use Rattle.script_tools.proofs.logging.write_revision.Goals as goal

pub write_command-requires-clause-named : goal.write_command-requires-clause-named
write_command-requires-clause-named g c =
    let v = c.args.image.now in
    let is : IsImage v = subst IsImage c.image.ensures c.node_count-nodes.ensures.image in
    subst (λ (w : ImageValue). NamesSplices w.splices c.args.revision.edit) (sym c.image-2.ensures)
    (subst (λ (r : Revision). NamesSplices v.splices r.edit) (sym c.requires.revision) (names_there v is c.args.k c.requires.there))

pub returns-in_err-write_command : goal.returns-in_err-write_command
returns-in_err-write_command g c =
    let v = c.args.image.now in
    let texts = c.args.texts in
    let a = g.W.Write.contents c.args.writer.now in
    let b = g.W.Write.contents c.write_command.new.writer in
    let command = shown_command texts v.pool (command_at v c.args.k) in
    let rest = comment_of (noted_of v c.args.k) ++ 10 ∷ [] in
    let is = ap (λ (w : ImageValue). shown_command texts w.pool (full_edit w.splices c.args.revision.edit)) c.image-2.ensures ∙ ap (λ (r : Revision). shown_command texts v.pool (full_edit v.splices r.edit)) c.requires.revision in
    stopped a b (revision_line texts v c.args.k) c.from_residual.result c.from_residual.ensures.0
    (front_and_part a a b [] command rest (revision_line texts v c.args.k) refl (appends_nothing a) (subst (AppendsPrefix a b) is c.in_err-write_command.ensures))

pub returns-in_err-put_comment : goal.returns-in_err-put_comment
returns-in_err-put_comment g c =
    let v = c.args.image.now in
    let texts = c.args.texts in
    let a = g.W.Write.contents c.args.writer.now in
    let b = g.W.Write.contents c.write_command.new.writer in
    let command = shown_command texts v.pool (command_at v c.args.k) in
    let rest = comment_of (noted_of v c.args.k) ++ 10 ∷ [] in
    let is = ap (λ (w : ImageValue). shown_command texts w.pool (full_edit w.splices c.args.revision.edit)) c.image-2.ensures ∙ ap (λ (r : Revision). shown_command texts v.pool (full_edit v.splices r.edit)) c.requires.revision in
    stopped a b (revision_line texts v c.args.k) c.from_residual-in_err-put_comment.result c.from_residual-in_err-put_comment.ensures.0
    (front_alone a b command rest (revision_line texts v c.args.k) refl (subst (Appends a b) is c.in_ok-write_command.ensures))

pub returns : goal.returns
returns g c =
    let v = c.args.image.now in
    let texts = c.args.texts in
    let a = g.W.Write.contents c.args.writer.now in
    let b = g.W.Write.contents c.write_command.new.writer in
    let d = g.W.Write.contents c.write_piece.new.writer in
    let command = shown_command texts v.pool (command_at v c.args.k) in
    let rest = comment_of (noted_of v c.args.k) ++ 10 ∷ [] in
    let is = ap (λ (w : ImageValue). shown_command texts w.pool (full_edit w.splices c.args.revision.edit)) c.image-2.ensures ∙ ap (λ (r : Revision). shown_command texts v.pool (full_edit v.splices r.edit)) c.requires.revision in
    then_last a b d command rest (revision_line texts v c.args.k) c.write_piece.result refl (subst (Appends a b) is c.in_ok-write_command.ensures)
    (writes_same b d c.deref.result.now rest c.write_piece.result (c.deref.ensures.value ∙ c.in_ok-put_comment.ensures ∙ ap (λ (x : Noted). comment_of x ++ 10 ∷ []) c.note_of.ensures) c.write_piece.ensures)
