use Rattle.std.proofs.lemmas.Result.{err_from_is_err_and}
use Rattle.screen_editor.proofs.KnownKeys.{known_in_current}
use Rattle.screen_editor.proofs.LineTurns.{failed_in_current}
use Rattle.screen_editor.proofs.editor.line_place.Goals as goal

pub returns-in_err-line_start-in-Looks-Start-clause-reads : goal.returns-in_err-line_start-in-Looks-Start-clause-reads
returns-in_err-line_start-in-Looks-Start-clause-reads g c =
    let p = err_from_is_err_and c.from_residual.result c.from_residual.ensures.1 in
    rw (p.1, p.2) (failed_in_current (g.R.Sources.reading c.args.sources.now) (g.R.Sources.reading c.line_start.new.sources) c.args.workspace.now c.session.result.now c.space-space.result.now c.root-root.result _
    c.session.ensures.value c.space-space.ensures.store c.root-root.ensures.value c.in_err-line_start-in-Looks-Start.ensures.reads)

pub returns-in_err-line_end-in-Looks-End-clause-reads : goal.returns-in_err-line_end-in-Looks-End-clause-reads
returns-in_err-line_end-in-Looks-End-clause-reads g c =
    let p = err_from_is_err_and c.from_residual-in_err-line_end-in-Looks-End.result c.from_residual-in_err-line_end-in-Looks-End.ensures.1 in
    rw (p.1, p.2) (failed_in_current (g.R.Sources.reading c.args.sources.now) (g.R.Sources.reading c.line_end.new.sources) c.args.workspace.now c.session.result.now c.space-space.result.now c.root-root.result _
    c.session.ensures.value c.space-space.ensures.store c.root-root.ensures.value c.in_err-line_end-in-Looks-End.ensures.reads)

pub returns-in_err-place_up-in-Looks-Above-clause-reads : goal.returns-in_err-place_up-in-Looks-Above-clause-reads
returns-in_err-place_up-in-Looks-Above-clause-reads g c =
    let p = err_from_is_err_and c.from_residual-in_err-place_up-in-Looks-Above.result c.from_residual-in_err-place_up-in-Looks-Above.ensures.1 in
    rw (p.1, p.2) (failed_in_current (g.R.Sources.reading c.args.sources.now) (g.R.Sources.reading c.place_up.new.sources) c.args.workspace.now c.session.result.now c.space-space.result.now c.root-root.result _
    c.session.ensures.value c.space-space.ensures.store c.root-root.ensures.value c.in_err-place_up-in-Looks-Above.ensures.reads)

pub returns-in_err-place_down-in-Looks-Below-clause-reads : goal.returns-in_err-place_down-in-Looks-Below-clause-reads
returns-in_err-place_down-in-Looks-Below-clause-reads g c =
    let p = err_from_is_err_and c.from_residual-in_err-place_down-in-Looks-Below.result c.from_residual-in_err-place_down-in-Looks-Below.ensures.1 in
    rw (p.1, p.2) (failed_in_current (g.R.Sources.reading c.args.sources.now) (g.R.Sources.reading c.place_down.new.sources) c.args.workspace.now c.session.result.now c.space-space.result.now c.root-root.result _
    c.session.ensures.value c.space-space.ensures.store c.root-root.ensures.value c.in_err-place_down-in-Looks-Below.ensures.reads)

pub line_start-requires-clause-known : goal.line_start-requires-clause-known
line_start-requires-clause-known g c =
    known_in_current (g.R.Sources.reading c.args.sources.now).stated c.args.workspace.now c.session.result.now c.space-space.result.now c.root-root.result c.args.known.now c.session.ensures.value c.space-space.ensures.store c.root-root.ensures.value c.requires.known

pub line_end-requires-clause-known : goal.line_end-requires-clause-known
line_end-requires-clause-known g c =
    known_in_current (g.R.Sources.reading c.args.sources.now).stated c.args.workspace.now c.session.result.now c.space-space.result.now c.root-root.result c.args.known.now c.session.ensures.value c.space-space.ensures.store c.root-root.ensures.value c.requires.known

pub place_up-requires-clause-known : goal.place_up-requires-clause-known
place_up-requires-clause-known g c =
    known_in_current (g.R.Sources.reading c.args.sources.now).stated c.args.workspace.now c.session.result.now c.space-space.result.now c.root-root.result c.args.known.now c.session.ensures.value c.space-space.ensures.store c.root-root.ensures.value c.requires.known

pub place_down-requires-clause-known : goal.place_down-requires-clause-known
place_down-requires-clause-known g c =
    known_in_current (g.R.Sources.reading c.args.sources.now).stated c.args.workspace.now c.session.result.now c.space-space.result.now c.root-root.result c.args.known.now c.session.ensures.value c.space-space.ensures.store c.root-root.ensures.value c.requires.known
