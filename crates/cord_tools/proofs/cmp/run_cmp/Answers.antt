use Rattle.std.proofs.lemmas.Result.{err_from_is_err_and}
use Rattle.cord_tools.proofs.ToolFaults.{compare_stopped}
use Rattle.cord_tools.proofs.UnreadCells.{other_cells}
use Rattle.cord_tools.proofs.cmp.run_cmp.Goals as goal

pub returns-in_err-order : goal.returns-in_err-order
returns-in_err-order g c =
    let p = err_from_is_err_and c.from_residual.result c.from_residual.ensures.1 in
    let e = c.in_err-order.field-0.0 in
    rw (p.1, p.2) (record {
      reads = other_cells (g.T.Sources.reading c.args.sources.now) (g.T.Sources.reading c.order_of.new.sources) _ e c.in_err-order.ensures.reads;
      answer = compare_stopped (g.T.Sources.reading c.args.sources.now).stated _ e c.in_err-order.ensures.fault;
    })
