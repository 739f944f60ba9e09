use Rattle.std.proofs.Common.{Err, subst, refl, ap, ◌∙◌, ◌++◌}
use Rattle.std.proofs.lemmas.Result.{err_from_is_err_and}
use Rattle.lazy_file.specs.SourceTexts.{Stated}
use Rattle.cord_tools.specs.Editing.{Concludes}
use Rattle.cord_tools.specs.EditingTyped.{EditsTyped}
use Rattle.cord_tools.proofs.Bytes.{Keeps-same}
use Rattle.cord_tools.proofs.FurtherKeys.{keys_further}
use Rattle.cord_tools.proofs.edit_typed.run_typed.Goals as goal

pub returns-in_err-editor : goal.returns-in_err-editor
returns-in_err-editor g c =
    let p = err_from_is_err_and c.from_residual.result c.from_residual.ensures.1 in
    rw (p.1, p.2) (EditsTyped.not_made c.in_err-editor.field-0.0 c.in_err-editor.ensures.fault
    (λ e. c.in_err-editor.ensures.too_long.0 (ap Err e), λ long. (let refused = c.in_err-editor.ensures.too_long.1 long in cc))
    refl (Keeps-same _) (Keeps-same _) (Keeps-same _) (Keeps-same _))

pub returns : goal.returns
returns g c =
    EditsTyped.ran c.in_ok-editor.editor c.in_ok-editor.ensures.sources
    (λ long. (let refused = c.in_ok-editor.ensures.too_long.1 long in absurd cc)) c.in_ok-editor.ensures.made (record {
      last = c.resume_typed-end.new.self;
      end = c.resume_typed-end.result;
      resumes = c.resume_typed-end.ensures.resumes;
      further = keys_further (g.S.Sources.reading c.in_ok-editor.editor.sources) c.resume_typed-end.ensures.resumes.run.sources c.in_ok-editor.editor.editing c.resume_typed-end.new.self.editing (c.args.played.now ++ c.resume_typed-end.ensures.resumes.run.keys) c.resume_typed-end.ensures.resumes.whole.behind c.resume_typed-end.ensures.resumes.whole.follow c.resume_typed-end.ensures.resumes.whole.last;
      concludes = subst (λ (st : Stated). Concludes st.sizes c.resume_typed-end.result c.resume_typed-end.new.self.editing (g.I.Write.contents c.args.image.now) (g.I.Write.contents c.conclude.new.image) c.conclude.result)
          (c.resume_typed-end.ensures.later.same ∙ ap (λ s. (g.S.Sources.reading s).stated) c.in_ok-editor.ensures.sources) c.conclude.ensures;
    })
