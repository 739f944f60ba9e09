use Rattle.std.proofs.Common.{sym, ap, ◌∙◌, arith}
use Rattle.rope_node.specs.Denotes.{rope_cells, text}
use Rattle.text_lines.proofs.KnownLaws.{known_start}
use Rattle.text_lines.proofs.LineLaws.{line_start_from}
use Rattle.text_lines.proofs.LineSearches.{start_found}
use Rattle.text_lines.proofs.lines.line_start.Goals as goal

pub returns-in-Some-2-clause-is : goal.returns-in-Some-2-clause-is
returns-in-Some-2-clause-is g c source agrees stated =
    let t = g.S.NodeSpace.table c.args.space.now in
    sym (ap line_start_from c.in-Some-2.is) ∙ start_found t (g.T.Sources.reading c.args.sources.now).stated c.args.rope c.args.place c.in_ok-found.field-0 (sym c.rope_len.ensures.cells ∙ c.rope_len.ensures.exact)
    (omega (arith, c.if-place-eq0.false)) c.requires.place c.in_ok-found.ensures.found source agrees stated

pub returns-in-None-clause-is : goal.returns-in-None-clause-is
returns-in-None-clause-is g c source agrees stated =
    let t = g.S.NodeSpace.table c.args.space.now in
    sym (ap line_start_from c.in-None.is) ∙ start_found t (g.T.Sources.reading c.args.sources.now).stated c.args.rope c.args.place c.in_ok-found.field-0 (sym c.rope_len.ensures.cells ∙ c.rope_len.ensures.exact)
    (omega (arith, c.if-place-eq0.false)) c.requires.place c.in_ok-found.ensures.found source agrees stated

pub returns-in-Some-clause-is : goal.returns-in-Some-clause-is
returns-in-Some-clause-is g c source agrees stated =
    known_start (text source (rope_cells (g.S.NodeSpace.table c.args.space.now) c.args.rope)) c.args.known.now c.args.place c.in-Some.line c.in-Some.ensures.holds (c.requires.known source agrees stated)
