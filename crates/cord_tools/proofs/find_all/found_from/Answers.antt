use Rattle.std.proofs.Common.{drop}
use Rattle.std.proofs.lemmas.Result.{err_from_is_err_and}
use Rattle.cord_tools.specs.Files.{file_cells}
use Rattle.cord_tools.proofs.UnreadCells.{other_cells}
use Rattle.cord_tools.proofs.find_all.found_from.Goals as goal

pub returns-in_err-read_part-clause-reads : goal.returns-in_err-read_part-clause-reads
returns-in_err-read_part-clause-reads g c =
    let p = err_from_is_err_and c.from_residual.result c.from_residual.ensures.1 in
    let old = g.T.Sources.reading c.args.sources.now in
    rw (p.1, p.2) (other_cells old (g.T.Sources.reading c.read_part.new.sources) (drop c.args.from (file_cells old.stated.sizes 0)) c.in_err-read_part.field-0.0 c.in_err-read_part.ensures.reads)
