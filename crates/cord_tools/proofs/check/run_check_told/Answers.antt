use Rattle.std.specs.Prelude.{string_bytes}
use Rattle.std.proofs.lemmas.Result.{err_from_is_err_and}
use Rattle.session_checker.specs.Accepted.{BytesAsk}
use Rattle.cord_tools.proofs.ToolFaults.{check_stopped}
use Rattle.cord_tools.proofs.UnreadCells.{not_read_at, other_at, same_after}
use Rattle.cord_tools.proofs.check.run_check_told.Goals as goal

pub returns-in_err-line : goal.returns-in_err-line
returns-in_err-line g c =
    let p = err_from_is_err_and c.from_residual-in_err-line.result c.from_residual-in_err-line.ensures.1 in
    rw (p.1, p.2) (record {
      answer = check_stopped c.args.at_most g.S.Sources.reading c.args.sources.now c.answer_with.new.sources (g.R.Read.remaining c.args.reader)
          (g.W.Write.contents c.args.writer.now) c.in_ok-bytes.bytes.items c.in_err-line.field-0.0 c.in_ok-bytes.ensures.ok
          (rw c.deref.ensures.value at c.in_err-line.ensures.fault);
      reads = other_at (g.S.Sources.reading c.args.sources.now) (g.S.Sources.reading c.answer_with.new.sources) (BytesAsk (g.S.Sources.reading c.args.sources.now).stated c.in_ok-bytes.bytes.items) _ c.in_err-line.field-0.0
          (λ s p asks. (c.in_ok-bytes.bytes.items, c.in_ok-bytes.ensures.ok, asks)) (rw c.deref.ensures.value at c.in_err-line.ensures.reads);
    })

pub returns-in_err-write_bytes : goal.returns-in_err-write_bytes
returns-in_err-write_bytes g c =
    let p = err_from_is_err_and c.from_residual-in_err-write_bytes.result c.from_residual-in_err-write_bytes.ensures.1 in
    let old = g.S.Sources.reading c.args.sources.now in
    let new = g.S.Sources.reading c.answer_with.new.sources in
    rw (p.1, p.2) (record {
      answer = (
        c.in_ok-bytes.bytes.items,
        string_bytes c.in_ok-line.line,
        c.in_ok-line.status,
        c.in_ok-bytes.ensures.ok,
        rw c.deref.ensures.value at c.in_ok-line.ensures.ok,
        rw c.as_bytes.ensures.value at c.in_err-write_bytes.ensures.err,
      );
      reads = not_read_at old new _ _ (same_after old new _ _ c.in_ok-line.ensures.reads);
    })

pub returns : goal.returns
returns g c =
    let old = g.S.Sources.reading c.args.sources.now in
    let new = g.S.Sources.reading c.answer_with.new.sources in
    record {
      answer = (
        c.in_ok-bytes.bytes.items,
        string_bytes c.in_ok-line.line,
        c.in_ok-bytes.ensures.ok,
        rw c.deref.ensures.value at c.in_ok-line.ensures.ok,
        rw c.as_bytes.ensures.value at c.in_ok-write_bytes.ensures.ok,
      );
      reads = not_read_at old new _ _ (same_after old new _ _ c.in_ok-line.ensures.reads);
    }
