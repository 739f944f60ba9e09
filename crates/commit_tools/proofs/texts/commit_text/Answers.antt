use Rattle.std.proofs.Common.{◌≡◌, ◌+◌, ◌-◌, Bool, Ok, length, subst, arith}
use Rattle.std.proofs.lemmas.Result.{err_from_is_err_and}
use Rattle.commit_tools.specs.Put.{GoesOnToText}
use Rattle.commit_tools.proofs.CommittedTexts.{failed_text, first_text, kept_text}
use Rattle.commit_tools.proofs.texts.commit_text.Goals as goal

pub returns-in_err-commit_behind-clause-text : goal.returns-in_err-commit_behind-clause-text
returns-in_err-commit_behind-clause-text g c =
    let p = err_from_is_err_and c.from_residual-in_err-commit_behind.result c.from_residual-in_err-commit_behind.ensures.1 in
    rw (p.1, p.2) (failed_text (g.T.Sources.reading c.args.sources.now).stated c.args.session.now c.begin.new.session c.commit_behind.new.session c.args.file.now c.in_err-commit_behind.field-0.0
    c.in_ok-begin.ensures.0 c.in_err-commit_behind.ensures.text)

pub returns-then-count-eq0-clause-text : goal.returns-then-count-eq0-clause-text
returns-then-count-eq0-clause-text g c =
    let last : length c.commit_behind.new.session.revisions ≡ c.count-then-count-eq0.result - 1 + 1 = omega (arith, c.count-then-count-eq0.ensures.value, c.in_ok-commit_behind.ensures.some) in
    first_text (g.T.Sources.reading c.args.sources.now).stated c.args.session.now c.begin.new.session c.commit_behind.new.session c.args.file.now c.in_ok-commit_behind.field-0 (c.count-then-count-eq0.result - 1)
    c.in_ok-begin.ensures.0 c.in_ok-begin.ensures.1 c.in_ok-begin.ensures.2 c.in_ok-begin.ensures.3 c.in_ok-commit_behind.ensures.text last

pub returns-else-added-clause-text : goal.returns-else-added-clause-text
returns-else-added-clause-text g c =
    let st = (g.T.Sources.reading c.args.sources.now).stated in
    let made = c.commit_behind-2.new.session in
    let goes = subst (λ (b : Bool). GoesOnToText st c.args.session.now c.args.file.now (Ok b) made) c.if-added.false c.in_ok-added.ensures.text in
    let last : length made.revisions ≡ c.count-last.result - 1 + 1 = omega (arith, c.count-last.ensures.value, c.in_ok-added.ensures.some) in
    kept_text st c.args.session.now made c.args.file.now (c.count-last.result - 1) (omega (arith, c.count.ensures.value, c.if-count-eq0.false)) goes last
