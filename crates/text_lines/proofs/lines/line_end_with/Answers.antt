use Rattle.std.proofs.Common.{sym, ap, ◌∙◌, unwrap_or}
use Rattle.text_lines.proofs.LineSearches.{end_found}
use Rattle.text_lines.proofs.lines.line_end_with.Goals as goal

pub returns-clause-is : goal.returns-clause-is
returns-clause-is g c source agrees stated =
    let t = g.S.NodeSpace.table c.args.space.now in
    c.unwrap_or.ensures ∙ ap (unwrap_or c.in_ok-found.found) c.rope_len.ensures.exact ∙ end_found t (g.T.Sources.reading c.args.sources.now).stated c.args.rope c.args.place c.in_ok-found.found (sym c.rope_len.ensures.cells ∙ c.rope_len.ensures.exact)
    c.requires.place c.in_ok-found.ensures.inside c.in_ok-found.ensures.found source agrees stated
