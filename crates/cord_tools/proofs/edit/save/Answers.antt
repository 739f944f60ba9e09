use Rattle.std.proofs.Common.{Ok, Err, subst, refl}
use Rattle.std.proofs.lemmas.Result.{err_from_is_err_and}
use Rattle.edit_commands.specs.Session.{SessionValue}
use Rattle.image_reader.specs.Spelling.{spelling}
use Rattle.image_reader.specs.Value.{IsImage}
use Rattle.session_image.specs.Written.{IsTrusted, Writes, image_of}
use Rattle.cord_tools.proofs.edit.save.Goals as goal

pub returns-in_err-write : goal.returns-in_err-write
returns-in_err-write g c =
    let p = err_from_is_err_and c.from_residual.result c.from_residual.ensures.1 in
    let old = g.I.Write.contents c.args.image.now in
    let new = g.I.Write.contents c.write.new.writer in
    rw (p.1, p.2) (record {
      sources = c.session.ensures.kept.sizes;
      written = Err c.in_err-write.field-0.0;
      image = subst (λ (v : SessionValue). Writes old new (spelling (image_of v)) (Err c.in_err-write.field-0.0)) c.session.ensures.session c.in_err-write.ensures.written;
      is_image = _;
      trusted = subst IsTrusted c.session.ensures.session c.in_err-write.ensures.trusted;
      answer = refl;
    })

pub returns : goal.returns
returns g c =
    let old = g.I.Write.contents c.args.image.now in
    let new = g.I.Write.contents c.write.new.writer in
    record {
      sources = c.session.ensures.kept.sizes;
      written = Ok c.in_ok-write.field-0;
      image = subst (λ (v : SessionValue). Writes old new (spelling (image_of v)) (Ok c.in_ok-write.field-0)) c.session.ensures.session c.in_ok-write.ensures.written;
      is_image = subst (λ (v : SessionValue). IsImage (image_of v)) c.session.ensures.session c.in_ok-write.ensures.image;
      trusted = subst IsTrusted c.session.ensures.session c.in_ok-write.ensures.trusted;
      answer = refl;
    }
