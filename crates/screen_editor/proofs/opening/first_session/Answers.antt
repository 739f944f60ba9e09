use Rattle.std.proofs.lemmas.Result.{err_from_is_err_and}
use Rattle.screen_editor.proofs.FirstFaults.{first_refused}
use Rattle.screen_editor.proofs.FirstTexts.{first_made, is_short}
use Rattle.screen_editor.proofs.opening.first_session.Goals as goal

pub returns-clause-first : goal.returns-clause-first
returns-clause-first g c =
    let added = c.in_ok-add_sources.ensures.added in
    first_made (g.R.Sources.reading c.args.sources.now).stated.sizes c.add_sources.new.session c.open_first.new.session c.in_ok-open_first.field-0 c.in_ok-open_first.ensures.made added.sources added.no_revisions c.count-one.ensures.history (is_short c.is_too_long.result (g.R.Sources.reading c.args.sources.now).stated c.is_too_long.ensures c.if-is_too_long.false)

pub returns-in_err-open_first-clause-fault : goal.returns-in_err-open_first-clause-fault
returns-in_err-open_first-clause-fault g c =
    let sizes = (g.R.Sources.reading c.args.sources.now).stated.sizes in
    let p = err_from_is_err_and c.from_residual-in_err-open_first.result c.from_residual-in_err-open_first.ensures.1 in
    rw (p.1, p.2) (first_refused sizes c.add_sources.new.session c.open_first.new.session c.in_err-open_first.field-0.0 c.in_ok-add_sources.ensures.added
    (is_short c.is_too_long.result (g.R.Sources.reading c.args.sources.now).stated c.is_too_long.ensures c.if-is_too_long.false) c.in_err-open_first.ensures)
