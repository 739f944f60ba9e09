use Rattle.std.proofs.Common.{ℕ, List, Err, Ok, ap}
use Rattle.std.proofs.KnownBytes.{Keeps-refl}
use Rattle.std.proofs.lemmas.Result.{err_from_is_err_and}
use Rattle.lazy_file.specs.SourceTexts.{stated_in_memory}
use Rattle.lazy_file.specs.Readings.{Reading}
use Rattle.commit_tools.proofs.CommittedImages.{commits_anew, cut_anew, fails_anew, written_anew}
use Rattle.commit_tools.proofs.committing.run_commit_anew.Goals as goal

pub returns-in_err-commit : goal.returns-in_err-commit
returns-in_err-commit g c =
    let made = c.commit_text.new.session in
    let before = g.W.Write.contents c.args.writer.now in
    let fault = c.in_err-commit.field-0.0 in
    let reading : List (List ℕ) → Reading = λ texts. record { stated = stated_in_memory texts; failures = λ s. 0 } in
    let commits = commits_anew (stated_in_memory c.new.result) c.new-session.result made c.args.file.now (Err fault) (ap stated_in_memory c.new.ensures) c.new-session.ensures.store c.new-session.ensures.revisions c.in_err-commit.ensures.text in
    let p = err_from_is_err_and c.from_residual.result c.from_residual.ensures.1 in
    rw (p.1, p.2) (fails_anew (reading c.new.result) (reading c.commit_text.new.sources) c.new-session.result made c.args.file.now fault before c.new-session.ensures.revisions commits c.in_err-commit.ensures.reads (Keeps-refl before))

pub returns-in-Ok : goal.returns-in-Ok
returns-in-Ok g c =
    let made = c.commit_text.new.session in
    let commits = commits_anew (stated_in_memory c.new.result) c.new-session.result made c.args.file.now (Ok c.in_ok-commit.commit) (ap stated_in_memory c.new.ensures) c.new-session.ensures.store c.new-session.ensures.revisions c.in_ok-commit.ensures.text in
    written_anew made c.args.file.now c.in_ok-commit.commit (g.W.Write.contents c.args.writer.now) (g.W.Write.contents c.write.new.writer) c.count-made.ensures.history
    commits c.in-Ok.ensures.image c.in-Ok.ensures.trusted c.in-Ok.ensures.as_made c.in-Ok.ensures.written.ok

pub returns : goal.returns
returns g c =
    let made = c.commit_text.new.session in
    let commits = commits_anew (stated_in_memory c.new.result) c.new-session.result made c.args.file.now (Ok c.in_ok-commit.commit) (ap stated_in_memory c.new.ensures) c.new-session.ensures.store c.new-session.ensures.revisions c.in_ok-commit.ensures.text in
    cut_anew made c.args.file.now c.in_ok-commit.commit (g.W.Write.contents c.args.writer.now) (g.W.Write.contents c.write.new.writer) c.count-made.ensures.history
    commits c.in-Err.ensures.written.err
