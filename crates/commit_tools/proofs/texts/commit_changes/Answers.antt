use Rattle.std.proofs.Common.{ℕ, ◌-◌, ap, ◌∙◌}
use Rattle.std.proofs.lemmas.Result.{err_from_is_err_and}
use Rattle.commit_tools.specs.Texts.{read_fault_of, revision_root}
use Rattle.commit_tools.proofs.CommittedTexts.{finds_changes, goes_there, reads_last, stays_there, stops_behind}
use Rattle.commit_tools.proofs.texts.commit_changes.Goals as goal
use Rattle.std.proofs.lemmas.Bool.{both_ways}

pub returns-in_err-found-clause-reads : goal.returns-in_err-found-clause-reads
returns-in_err-found-clause-reads g c =
    let p = err_from_is_err_and c.from_residual.result c.from_residual.ensures.1 in
    rw (p.1, p.2) (reads_last c.args.session.now c.space.result.now c.revision_root-rope.result c.args.file.now (g.T.Sources.reading c.args.sources.now) (g.T.Sources.reading c.found_beside.new.sources) (read_fault_of c.in_err-found.field-0.0)
    c.space.ensures.store (c.revision_root-rope.ensures.root ∙ ap (λ (n : ℕ). revision_root c.args.session.now (n - 1)) c.count.ensures.value) c.in_err-found.ensures.reads)

pub returns-then-is_same-clause-text : goal.returns-then-is_same-clause-text
returns-then-is_same-clause-text g c =
    let v = c.args.session.now in
    let st = (g.T.Sources.reading c.args.sources.now).stated in
    let found = c.in_ok-found.found in
    let finds = finds_changes st v c.space.result.now c.revision_root-rope.result found c.args.file.now c.space.ensures.store (c.revision_root-rope.ensures.root ∙ ap (λ (n : ℕ). revision_root c.args.session.now (n - 1)) c.count.ensures.value) c.in_ok-found.ensures.found c.in_ok-found.ensures.text c.in_ok-found.ensures.len c.in_ok-found.ensures.apart in
    stays_there st v found c.args.file.now finds (c.is_same.ensures.0 c.if-is_same.true)

pub returns-clause-text : goal.returns-clause-text
returns-clause-text g c =
    let v = c.args.session.now in
    let st = (g.T.Sources.reading c.args.sources.now).stated in
    let found = c.in_ok-found.found in
    let finds = finds_changes st v c.space.result.now c.revision_root-rope.result found c.args.file.now c.space.ensures.store (c.revision_root-rope.ensures.root ∙ ap (λ (n : ℕ). revision_root c.args.session.now (n - 1)) c.count.ensures.value) c.in_ok-found.ensures.found c.in_ok-found.ensures.text c.in_ok-found.ensures.len c.in_ok-found.ensures.apart in
    goes_there st v c.put_changes.new.session found c.args.file.now c.requires.none finds (λ none. both_ways c.is_same.result c.if-is_same.false (c.is_same.ensures.1 none)) c.in_ok-put_changes.ensures

pub returns-in_err-put_changes-clause-text : goal.returns-in_err-put_changes-clause-text
returns-in_err-put_changes-clause-text g c =
    let v = c.args.session.now in
    let st = (g.T.Sources.reading c.args.sources.now).stated in
    let found = c.in_ok-found.found in
    let finds = finds_changes st v c.space.result.now c.revision_root-rope.result found c.args.file.now c.space.ensures.store (c.revision_root-rope.ensures.root ∙ ap (λ (n : ℕ). revision_root c.args.session.now (n - 1)) c.count.ensures.value) c.in_ok-found.ensures.found c.in_ok-found.ensures.text c.in_ok-found.ensures.len c.in_ok-found.ensures.apart in
    let p = err_from_is_err_and c.from_residual-in_err-put_changes.result c.from_residual-in_err-put_changes.ensures.1 in
    rw (p.1, p.2) (stops_behind st v c.put_changes.new.session found c.args.file.now c.in_err-put_changes.field-0.0 c.requires.none finds c.in_err-put_changes.ensures)
