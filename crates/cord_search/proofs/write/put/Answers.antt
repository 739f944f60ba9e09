use Rattle.std.proofs.Common.{◌+◌, ◌-◌, ◌≤◌, length, sym, subst, ◌∙◌, arith}
use Rattle.std.specs.Io.KnownBytes.{Appends}
use Rattle.std.proofs.lemmas.List.{take_all}
use Rattle.std.proofs.lemmas.Result.{err_from_is_err_and}
use Rattle.lazy_file.proofs.LaterReads.{same_stated}
use Rattle.rope_node.specs.Denotes.{rope_cells, rope_len, text}
use Rattle.byte_output.specs.Prefix.{AppendsPrefix}
use Rattle.byte_output.proofs.Appended.{Appends-then, Appends-then_prefix}
use Rattle.cord_search.proofs.Fetches.{text_length}
use Rattle.cord_position.specs.Position.{text_len}
use Rattle.cord_search.proofs.Reaching.{later_place, bytes_there, failed_there, there_len}
use Rattle.cord_search.proofs.write.put.Goals as goal

pub returns-in_err-window-clause-err : goal.returns-in_err-window-clause-err
returns-in_err-window-clause-err g c =
    let p = err_from_is_err_and c.from_residual.result c.from_residual.ensures.1 in
    rw p.1 (λ source agrees stated. (c.loop-done.done, c.loop-done.invariant.told source agrees stated))

pub returns-in_err-window-clause-reads : goal.returns-in_err-window-clause-reads
returns-in_err-window-clause-reads g c =
    let p = err_from_is_err_and c.from_residual.result c.from_residual.ensures.1 in
    let t = g.S.NodeSpace.table c.args.space.now in
    let n = c.rope_len-len.result - c.loop-done.done in
    let h = failed_there (g.T.Sources.reading c.args.sources.now) (g.T.Sources.reading c.loop-done.sources) (g.T.Sources.reading c.next_window.new.sources) g.S.NodeSpace.table c.loop-done.pos c.args.space.now c.args.x
    0 (rope_len t c.args.x) c.loop-done.done n c.in_err-window.field-0.0 c.loop-done.invariant.reads c.loop-done.invariant.at (sym c.rope_len-len.ensures.cells ∙ c.rope_len-len.ensures.exact) c.in_err-window.ensures.reads
    (omega arith) (omega (arith, c.rope_len-len.ensures.exact, c.loop-done-test.true)) in
    rw (p.1, p.2) h

pub returns-in_err-write_bytes-clause-err : goal.returns-in_err-write_bytes-clause-err
returns-in_err-write_bytes-clause-err g c =
    let p = err_from_is_err_and c.from_residual-in_err-write_bytes.result c.from_residual-in_err-write_bytes.ensures.1 in
    rw p.1 (λ source agrees stated.
    let u = text source (rope_cells (g.S.NodeSpace.table c.args.space.now) c.args.x) in
    let run = c.in_ok-window.window.now in
    let fits : c.loop-done.pos.index + length run ≤ text_len g.S.NodeSpace.table c.loop-done.pos = omega (arith, c.in_ok-window.ensures.most, c.loop-done-test.true, c.rope_len-len.ensures.exact, there_len g.S.NodeSpace.table c.loop-done.pos c.args.space.now c.args.x c.loop-done.done c.loop-done.invariant.at, c.loop-done.invariant.at.index) in
    let bytes = bytes_there g.S.NodeSpace.table c.loop-done.pos c.args.space.now c.args.x c.loop-done.done (g.T.Sources.reading c.args.sources.now).stated (g.T.Sources.reading c.loop-done.sources).stated run source
    c.loop-done.invariant.at fits c.in_ok-window.ensures.bytes (same_stated c.loop-done.invariant.reads) agrees
    (λ p above below. stated p (omega arith) (omega (arith, below, c.in_ok-window.ensures.most, c.rope_len-len.ensures.exact, c.loop-done-test.true))) in
    Appends-then_prefix (g.W.Write.contents c.args.writer.now) (g.W.Write.contents c.loop-done.writer) (g.W.Write.contents c.write_bytes.new.writer) c.loop-done.done (length run) u
    (c.loop-done.invariant.told source agrees stated) (subst (AppendsPrefix (g.W.Write.contents c.loop-done.writer) (g.W.Write.contents c.write_bytes.new.writer)) bytes c.in_err-write_bytes.ensures.err))

pub loop-done-preserved : goal.loop-done-preserved
loop-done-preserved g c = record {
  reads = c.in_ok-window.ensures.reads ∙ c.loop-done.invariant.reads;
  inside = omega (arith, c.in_ok-window.ensures.most, c.rope_len-len.ensures.exact, c.loop-done-test.true);
  at = later_place g.S.NodeSpace.table c.loop-done.pos c.skip.new.self c.args.space.now c.args.x c.loop-done.done (length c.in_ok-window.window.now) c.skip.ensures.space c.skip.ensures.rope c.skip.ensures.index c.loop-done.invariant.at;
  told = λ source agrees stated.
      let u = text source (rope_cells (g.S.NodeSpace.table c.args.space.now) c.args.x) in
      let run = c.in_ok-window.window.now in
      let fits : c.loop-done.pos.index + length run ≤ text_len g.S.NodeSpace.table c.loop-done.pos = omega (arith, c.in_ok-window.ensures.most, c.loop-done-test.true, c.rope_len-len.ensures.exact, there_len g.S.NodeSpace.table c.loop-done.pos c.args.space.now c.args.x c.loop-done.done c.loop-done.invariant.at, c.loop-done.invariant.at.index) in
      let bytes = bytes_there g.S.NodeSpace.table c.loop-done.pos c.args.space.now c.args.x c.loop-done.done (g.T.Sources.reading c.args.sources.now).stated (g.T.Sources.reading c.loop-done.sources).stated run source
      c.loop-done.invariant.at fits c.in_ok-window.ensures.bytes (same_stated c.loop-done.invariant.reads) agrees
      (λ p above below. stated p (omega arith) (omega (arith, below, c.in_ok-window.ensures.most, c.rope_len-len.ensures.exact, c.loop-done-test.true))) in
      Appends-then (g.W.Write.contents c.args.writer.now) (g.W.Write.contents c.loop-done.writer) (g.W.Write.contents c.write_bytes.new.writer) c.loop-done.done (length run) u
      (c.loop-done.invariant.told source agrees stated) (subst (Appends (g.W.Write.contents c.loop-done.writer) (g.W.Write.contents c.write_bytes.new.writer)) bytes c.in_ok-write_bytes.ensures.ok);
}

pub returns-clause-ok : goal.returns-clause-ok
returns-clause-ok g c source agrees stated =
    let t = g.S.NodeSpace.table c.args.space.now in
    let u = text source (rope_cells t c.args.x) in
    let whole = take_all c.loop-done.done u (omega (arith, text_length t c.args.x source, c.rope_len-len.ensures.cells, c.loop-done-test.false)) in
    subst (Appends (g.W.Write.contents c.args.writer.now) (g.W.Write.contents c.loop-done.writer)) whole (c.loop-done.invariant.told source agrees stated)
