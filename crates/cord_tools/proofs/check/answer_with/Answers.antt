use Rattle.std.proofs.Common.{◌≡◌, rules}
use Rattle.cord_tools.specs.Faults.{check_fault}
use Rattle.cord_tools.specs.declared.fault.ToolFault.TheVariants.{Refused}
use Rattle.cord_tools.proofs.ToolFaults.{no_source}
use Rattle.cord_tools.proofs.UnreadCells.{not_read_at}
use Rattle.cord_tools.proofs.check.answer_with.Goals as goal

pub returns-in_ok-refused_line-in-Err : goal.returns-in_ok-refused_line-in-Err
returns-in_ok-refused_line-in-Err g c =
    let f = c.in-Err.fault in
    let told : check_fault f ≡ Refused f = search rules in
    record {
      ok = (f, record { first = c.in-Err.ensures.refused (no_source f told); told = told }, c.in_ok-refused_line-in-Err.ensures);
      fault = tt;
      reads = not_read_at (g.S.Sources.reading c.args.sources.now) (g.S.Sources.reading c.check_told.new.sources) _ _ (rw (no_source f told) at c.in-Err.ensures.reads);
    }
