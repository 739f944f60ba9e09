use Rattle.std.proofs.Common.{[], ◌∷◌, ◌∙◌, drop, subst, take}
use Rattle.std.specs.Io.KnownBytes.{Appends}
use Rattle.byte_output.specs.Prefix.{AppendsPrefix}
use Rattle.edit_script.specs.Words.{Quoted, numbers_on}
use Rattle.session_image.proofs.Sections.{appends_nothing}
use Rattle.script_tools.specs.Logged.{shown_on}
use Rattle.script_tools.proofs.Pieces.{front_and_part, stopped, then_last}
use Rattle.script_tools.proofs.ShownTexts.{shown_splice, splice_shown}
use Rattle.script_tools.proofs.logging.write_splice.Goals as goal

pub returns-in_err-write_piece : goal.returns-in_err-write_piece
returns-in_err-write_piece g c =
    let texts = c.args.texts in
    let pool = c.args.image.now.pool in
    let s = c.args.splice in
    let a = g.W.Write.contents c.args.writer.now in
    let b = g.W.Write.contents c.write_piece.new.writer in
    let front = numbers_on (s.p ∷ s.m ∷ []) in
    let rest = shown_on texts (Quoted (take s.n (drop s.a pool)) ∷ []) in
    let whole = splice_shown texts pool s in
    stopped a b whole c.from_residual-in_err-write_piece.result c.from_residual-in_err-write_piece.ensures.0
    (front_and_part a a b [] front rest whole (shown_splice texts pool s) (appends_nothing a) (subst (AppendsPrefix a b) (c.deref.ensures.value ∙ c.in_ok-put_numbers.ensures) c.in_err-write_piece.ensures))

pub returns : goal.returns
returns g c =
    let texts = c.args.texts in
    let pool = c.args.image.now.pool in
    let s = c.args.splice in
    let a = g.W.Write.contents c.args.writer.now in
    let b = g.W.Write.contents c.write_piece.new.writer in
    let d = g.W.Write.contents c.write_span.new.writer in
    let front = numbers_on (s.p ∷ s.m ∷ []) in
    let rest = shown_on texts (Quoted (take s.n (drop s.a pool)) ∷ []) in
    then_last a b d front rest (splice_shown texts pool s) c.write_span.result (shown_splice texts pool s)
    (subst (Appends a b) (c.deref.ensures.value ∙ c.in_ok-put_numbers.ensures) c.in_ok-write_piece.ensures) c.write_span.ensures
