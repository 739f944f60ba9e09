use Rattle.std.proofs.Common.{Ok, sym, subst}
use Rattle.std.proofs.lemmas.Result.{err_from_is_err_and}
use Rattle.std.proofs.KnownBytes.{Keeps-refl}
use Rattle.commit_tools.specs.declared.answer.Commit.{Commit}
use Rattle.commit_tools.specs.Commits.{CommitsOnto, CommitsText}
use Rattle.commit_tools.proofs.CommittedImages.{committed_onto, failed_onto, same_onto, was_begun}
use Rattle.commit_tools.proofs.committing.run_commit.Goals as goal

pub returns-in_err-commit : goal.returns-in_err-commit
returns-in_err-commit g c =
    let old = g.S.Sources.reading c.args.sources.now in
    let mid = g.S.Sources.reading c.begun_onto.new.sources in
    let new = g.S.Sources.reading c.commit_text.new.sources in
    let before = g.W.Write.contents c.args.writer.now in
    let was = was_begun c.args.at_most old mid c.args.image.items c.in_ok-session.session c.in_ok-session.ensures in
    let p = err_from_is_err_and c.from_residual-in_err-commit.result c.from_residual-in_err-commit.ensures.1 in
    rw (p.1, p.2) (failed_onto was new c.in_err-commit.field-0.0 c.commit_text.new.session before c.in_err-commit.ensures.text c.in_err-commit.ensures.reads (Keeps-refl before))

pub returns-in-Same : goal.returns-in-Same
returns-in-Same g c =
    let old = g.S.Sources.reading c.args.sources.now in
    let mid = g.S.Sources.reading c.begun_onto.new.sources in
    let new = g.S.Sources.reading c.commit_text.new.sources in
    let before = g.W.Write.contents c.args.writer.now in
    let begun = c.in_ok-session.session in
    let was = was_begun c.args.at_most old mid c.args.image.items begun c.in_ok-session.ensures in
    let commits = subst (λ (a : Commit). CommitsText mid.stated begun c.args.file.now (Ok a) c.commit_text.new.session) c.in-Same.is c.in_ok-commit.ensures.text in
    subst (λ (a : Commit). CommitsOnto c.args.at_most old new c.args.image.items c.args.file.now before before (Ok a)) (sym c.in-Same.is)
    (same_onto was new c.in-Same.field-0 c.commit_text.new.session before commits c.in_ok-commit.ensures.reads (Keeps-refl before))

pub returns-in-Ok : goal.returns-in-Ok
returns-in-Ok g c =
    let old = g.S.Sources.reading c.args.sources.now in
    let mid = g.S.Sources.reading c.begun_onto.new.sources in
    let new = g.S.Sources.reading c.commit_text.new.sources in
    let before = g.W.Write.contents c.args.writer.now in
    let after = g.W.Write.contents c.write.new.writer in
    let begun = c.in_ok-session.session in
    let made = c.commit_text.new.session in
    let was = was_begun c.args.at_most old mid c.args.image.items begun c.in_ok-session.ensures in
    let commits = subst (λ (a : Commit). CommitsText mid.stated begun c.args.file.now (Ok a) made) c.in-Added.is c.in_ok-commit.ensures.text in
    let is = committed_onto was c.in-Added.field-0 made commits c.count-made.ensures.history in
    subst (λ (a : Commit). CommitsOnto c.args.at_most old new c.args.image.items c.args.file.now before after (Ok a)) (sym c.in-Added.is)
    (record { checked = Ok was.v; between = mid; check = was.check; reads = (begun, was.from_image, c.in_ok-commit.ensures.reads); written = (made, is, c.in-Ok.ensures.image, c.in-Ok.ensures.trusted, c.in-Ok.ensures.as_made, c.in-Ok.ensures.written.ok) })

pub returns : goal.returns
returns g c =
    let old = g.S.Sources.reading c.args.sources.now in
    let mid = g.S.Sources.reading c.begun_onto.new.sources in
    let begun = c.in_ok-session.session in
    let made = c.commit_text.new.session in
    let was = was_begun c.args.at_most old mid c.args.image.items begun c.in_ok-session.ensures in
    let commits = subst (λ (a : Commit). CommitsText mid.stated begun c.args.file.now (Ok a) made) c.in-Added.is c.in_ok-commit.ensures.text in
    let is = committed_onto was c.in-Added.field-0 made commits c.count-made.ensures.history in
    record { checked = Ok was.v; between = mid; check = was.check; reads = (begun, was.from_image, c.in_ok-commit.ensures.reads); written = (made, c.in-Added.field-0, is, c.in-Err.ensures.written.err) }
