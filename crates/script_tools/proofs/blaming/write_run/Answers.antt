use Rattle.std.proofs.Common.{◌≡◌, [], ◌∷◌, ◌++◌, ◌∙◌, List, ℕ, ap, refl, subst, append_assoc}
use Rattle.std.specs.Io.KnownBytes.{Appends}
use Rattle.byte_output.specs.Prefix.{AppendsPrefix}
use Rattle.command_parts.specs.Commands.{full_edit, named_splices}
use Rattle.image_reader.specs.declared.revision.Revision.{Revision}
use Rattle.image_reader.specs.Value.{ImageValue}
use Rattle.image_reader.specs.Accepted.{revision_at}
use Rattle.edit_script.specs.Words.{Number, line_of}
use Rattle.edit_script.specs.Commands.{front_of}
use Rattle.session_image.proofs.Sections.{appends_nothing, appends_then}
use Rattle.script_tools.specs.declared.shown.LogTexts.TheVariants.{Brief}
use Rattle.script_tools.specs.Logged.{shown_on}
use Rattle.script_tools.specs.Blamed.{run_line, run_texts, run_words}
use Rattle.script_tools.proofs.Pieces.{front_and_part, stopped, then_last}
use Rattle.script_tools.proofs.blaming.write_run.Goals as goal

pub returns-in_err-write_piece : goal.returns-in_err-write_piece
returns-in_err-write_piece g c =
    let v = c.args.image.now in
    let run = c.args.run in
    let place = c.args.place in
    let a = g.W.Write.contents c.args.writer.now in
    let b = g.W.Write.contents c.write_piece.new.writer in
    let front = line_of (run_words v place run) in
    let rest = shown_on Brief (run_texts v.pool run) ++ 10 ∷ [] in
    let edit = c.revision-revision.result.edit in
    let same : c.revision-revision.result ≡ revision_at v run.first.revision = c.revision-revision.ensures.at ∙ ap (λ (w : ImageValue). revision_at w run.first.revision) c.image.ensures in
    let is : c.deref.result.now ≡ front =
    c.deref.ensures.value ∙ c.in_ok-put_run.ensures (named_splices v.splices edit)
    ∙ ap (λ (r : Revision). line_of (Number place ∷ Number run.len ∷ Number run.first.revision ∷ Number run.first.place ∷ front_of (full_edit v.splices r.edit))) same in
    stopped a b (run_line v place run) c.from_residual-in_err-write_piece.result c.from_residual-in_err-write_piece.ensures.0
    (front_and_part a a b [] front rest (run_line v place run) refl (appends_nothing a) (subst (AppendsPrefix a b) is c.in_err-write_piece.ensures))

pub returns-in_err-write_bytes_of : goal.returns-in_err-write_bytes_of
returns-in_err-write_bytes_of g c =
    let v = c.args.image.now in
    let run = c.args.run in
    let place = c.args.place in
    let a = g.W.Write.contents c.args.writer.now in
    let b = g.W.Write.contents c.write_piece.new.writer in
    let d = g.W.Write.contents c.write_bytes_of.new.writer in
    let front = line_of (run_words v place run) in
    let edit = c.revision-revision.result.edit in
    let same : c.revision-revision.result ≡ revision_at v run.first.revision = c.revision-revision.ensures.at ∙ ap (λ (w : ImageValue). revision_at w run.first.revision) c.image.ensures in
    let is : c.deref.result.now ≡ front =
    c.deref.ensures.value ∙ c.in_ok-put_run.ensures (named_splices v.splices edit)
    ∙ ap (λ (r : Revision). line_of (Number place ∷ Number run.len ∷ Number run.first.revision ∷ Number run.first.place ∷ front_of (full_edit v.splices r.edit))) same in
    let pool : c.pool.result.now ≡ v.pool = c.pool.ensures ∙ ap (λ (w : ImageValue). w.pool) c.image-2.ensures in
    stopped a d (run_line v place run) c.from_residual-in_err-write_bytes_of.result c.from_residual-in_err-write_bytes_of.ensures.0
    (front_and_part a b d front (shown_on Brief (run_texts v.pool run)) (10 ∷ []) (run_line v place run) refl (subst (Appends a b) is c.in_ok-write_piece.ensures)
    (subst (λ (p : List ℕ). AppendsPrefix b d (shown_on Brief (run_texts p run))) pool c.in_err-write_bytes_of.ensures))

pub returns : goal.returns
returns g c =
    let v = c.args.image.now in
    let run = c.args.run in
    let place = c.args.place in
    let a = g.W.Write.contents c.args.writer.now in
    let b = g.W.Write.contents c.write_piece.new.writer in
    let d = g.W.Write.contents c.write_bytes_of.new.writer in
    let e = g.W.Write.contents c.write_piece-2.new.writer in
    let front = line_of (run_words v place run) in
    let texts = shown_on Brief (run_texts v.pool run) in
    let edit = c.revision-revision.result.edit in
    let same : c.revision-revision.result ≡ revision_at v run.first.revision = c.revision-revision.ensures.at ∙ ap (λ (w : ImageValue). revision_at w run.first.revision) c.image.ensures in
    let is : c.deref.result.now ≡ front =
    c.deref.ensures.value ∙ c.in_ok-put_run.ensures (named_splices v.splices edit)
    ∙ ap (λ (r : Revision). line_of (Number place ∷ Number run.len ∷ Number run.first.revision ∷ Number run.first.place ∷ front_of (full_edit v.splices r.edit))) same in
    let pool : c.pool.result.now ≡ v.pool = c.pool.ensures ∙ ap (λ (w : ImageValue). w.pool) c.image-2.ensures in
    then_last a d e (front ++ texts) (10 ∷ []) (run_line v place run) c.write_piece-2.result (append_assoc front texts (10 ∷ []))
    (appends_then a b d front texts (subst (Appends a b) is c.in_ok-write_piece.ensures)
    (subst (λ (p : List ℕ). Appends b d (shown_on Brief (run_texts p run))) pool c.in_ok-write_bytes_of.ensures))
    c.write_piece-2.ensures
