use Rattle.std.proofs.Common.{ℕ, List, [], ◌∷◌, ◌++◌, ◌∙◌, append_assoc, subst}
use Rattle.std.specs.List.{flat_map}
use Rattle.std.specs.Io.KnownBytes.{Appends}
use Rattle.byte_output.specs.Prefix.{AppendsPrefix}
use Rattle.edit_script.specs.Words.{Quoted, escaped}
use Rattle.session_image.proofs.Sections.{appends_nothing, appends_then}
use Rattle.script_tools.specs.Logged.{dots, shown, shown_on}
use Rattle.script_tools.proofs.Pieces.{front_and_part, stopped, then_last, writes_same}
use Rattle.script_tools.proofs.ShownTexts.{shown_text}
use Rattle.script_tools.proofs.shown.write_text.Goals as goal

pub returns-in_err-write_piece : goal.returns-in_err-write_piece
returns-in_err-write_piece g c =
    let texts = c.args.texts in
    let text = c.args.text.now in
    let a = g.W.Write.contents c.args.writer.now in
    let b = g.W.Write.contents c.write_piece.new.writer in
    let whole = shown_on texts (Quoted text ∷ []) in
    stopped a b whole c.from_residual.result c.from_residual.ensures.0
    (front_and_part a a b [] (32 ∷ 34 ∷ []) (flat_map escaped (shown texts text) ++ (34 ∷ dots texts text)) whole (shown_text texts text) (appends_nothing a) c.in_err-write_piece.ensures)

pub returns-in_err-write_escaped : goal.returns-in_err-write_escaped
returns-in_err-write_escaped g c =
    let texts = c.args.texts in
    let text = c.args.text.now in
    let a = g.W.Write.contents c.args.writer.now in
    let b = g.W.Write.contents c.write_piece.new.writer in
    let d = g.W.Write.contents c.write_escaped.new.writer in
    let whole = shown_on texts (Quoted text ∷ []) in
    stopped a d whole c.from_residual-in_err-write_escaped.result c.from_residual-in_err-write_escaped.ensures.0
    (front_and_part a b d (32 ∷ 34 ∷ []) (flat_map escaped (shown texts text)) (34 ∷ dots texts text) whole (shown_text texts text) c.in_ok-write_piece.ensures
    (subst (λ (t : List ℕ). AppendsPrefix b d (flat_map escaped t)) c.shown.ensures c.in_err-write_escaped.ensures))

pub returns : goal.returns
returns g c =
    let texts = c.args.texts in
    let text = c.args.text.now in
    let a = g.W.Write.contents c.args.writer.now in
    let b = g.W.Write.contents c.write_piece.new.writer in
    let d = g.W.Write.contents c.write_escaped.new.writer in
    let e = g.W.Write.contents c.write_piece-2.new.writer in
    let front = 32 ∷ 34 ∷ [] in
    let inner = flat_map escaped (shown texts text) in
    let behind = 34 ∷ dots texts text in
    let whole = shown_on texts (Quoted text ∷ []) in
    then_last a d e (front ++ inner) behind whole c.write_piece-2.result (append_assoc front inner behind ∙ shown_text texts text)
    (appends_then a b d front inner c.in_ok-write_piece.ensures (subst (λ (t : List ℕ). Appends b d (flat_map escaped t)) c.shown.ensures c.in_ok-write_escaped.ensures))
    (writes_same d e c.quote_behind.result.now behind c.write_piece-2.result c.quote_behind.ensures c.write_piece-2.ensures)
