use Rattle.std.proofs.Common.{[], ◌∙◌, refl, subst}
use Rattle.std.specs.Io.KnownBytes.{Appends}
use Rattle.byte_output.specs.Prefix.{AppendsPrefix}
use Rattle.command_parts.specs.Commands.{full_edit, named_splices}
use Rattle.edit_script.specs.Words.{line_of}
use Rattle.edit_script.specs.Commands.{front_of, quoted_texts}
use Rattle.session_image.proofs.Sections.{appends_nothing}
use Rattle.script_tools.specs.Logged.{shown_command, shown_on}
use Rattle.script_tools.proofs.Pieces.{front_and_part, stopped, then_last}
use Rattle.script_tools.proofs.logging.write_command.Goals as goal

pub returns-in_err-write_piece : goal.returns-in_err-write_piece
returns-in_err-write_piece g c =
    let v = c.args.image.now in
    let edit = c.args.edit.now in
    let command = full_edit v.splices edit in
    let texts = c.args.texts in
    let a = g.W.Write.contents c.args.writer.now in
    let b = g.W.Write.contents c.write_piece.new.writer in
    let front = line_of (front_of command) in
    let rest = shown_on texts (quoted_texts v.pool command) in
    stopped a b (shown_command texts v.pool command) c.from_residual-in_err-write_piece.result c.from_residual-in_err-write_piece.ensures.0
    (front_and_part a a b [] front rest (shown_command texts v.pool command) refl (appends_nothing a)
    (subst (AppendsPrefix a b) (c.deref.ensures.value ∙ c.in_ok-put_front.ensures (named_splices v.splices edit)) c.in_err-write_piece.ensures))

pub returns : goal.returns
returns g c =
    let v = c.args.image.now in
    let edit = c.args.edit.now in
    let command = full_edit v.splices edit in
    let texts = c.args.texts in
    let a = g.W.Write.contents c.args.writer.now in
    let b = g.W.Write.contents c.write_piece.new.writer in
    let d = g.W.Write.contents c.write_texts.new.writer in
    let front = line_of (front_of command) in
    let rest = shown_on texts (quoted_texts v.pool command) in
    then_last a b d front rest (shown_command texts v.pool command) c.write_texts.result refl
    (subst (Appends a b) (c.deref.ensures.value ∙ c.in_ok-put_front.ensures (named_splices v.splices edit)) c.in_ok-write_piece.ensures) c.write_texts.ensures
