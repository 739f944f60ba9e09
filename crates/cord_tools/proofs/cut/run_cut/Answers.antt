use Rattle.std.proofs.Common.{◌≡◌, ◌∙◌, ap, inr, refl}
use Rattle.std.specs.Io.KnownBytes.{Appends}
use Rattle.std.proofs.lemmas.Result.{err_from_is_err_and}
use Rattle.function_leaf.specs.Coded.{coded_byte}
use Rattle.function_leaf.specs.declared.coded.Coded.{Coded}
use Rattle.node_table.specs.Held.{Held, table_of}
use Rattle.byte_output.specs.Prefix.{AppendsPrefix}
use Rattle.cord_tools.proofs.Bytes.{no_byte}
use Rattle.cord_tools.proofs.Spans.{of_part, part_cells}
use Rattle.cord_tools.proofs.ToolFaults.{put_stops}
use Rattle.cord_tools.proofs.UnreadCells.{not_read, put_read}
use Rattle.cord_tools.proofs.cut.run_cut.Goals as goal

pub returns-in_err-rope : goal.returns-in_err-rope
returns-in_err-rope g c =
    let p = err_from_is_err_and c.from_residual-in_err-rope.result c.from_residual-in_err-rope.ensures.1 in
    rw (p.1, p.2) (record {
      reads = not_read (g.T.Sources.reading c.args.sources.now) (g.T.Sources.reading c.args.sources.now) _ _ refl (λ is. absurd cc);
      ok = tt;
      err = λ source agrees stated. no_byte (g.W.Write.contents c.args.writer.now) _;
      fault = inr (inr refl);
    })

pub returns-in_err-put : goal.returns-in_err-put
returns-in_err-put g c =
    let p = err_from_is_err_and c.from_residual-in_err-put.result c.from_residual-in_err-put.ensures.1 in
    let st = (g.T.Sources.reading c.args.sources.now).stated in
    let t = table_of coded_byte c.part.new.store in
    let own : t.sources ≡ st.sizes = c.in_ok-rope.ensures.sources ∙ ap (λ (h : Held Coded). h.sources) c.in_ok-store.ensures.ok in
    rw (p.1, p.2) (record {
      reads = put_read (g.T.Sources.reading c.args.sources.now) (g.T.Sources.reading c.put.new.sources) t c.in_ok-rope.rope _ c.in_err-put.field-0.0 _
          (part_cells t st.sizes 0 c.args.start c.args.count c.in_ok-rope.rope own c.in_ok-rope.ensures.ok) c.in_err-put.ensures.reads;
      ok = tt;
      err = of_part t st 0 c.args.start c.args.count c.in_ok-rope.rope 0 _ (AppendsPrefix (g.W.Write.contents c.args.writer.now) (g.W.Write.contents c.put.new.writer)) own c.in_ok-rope.ensures.ok c.in_err-put.ensures.err;
      fault = put_stops _;
    })

pub returns : goal.returns
returns g c =
    let st = (g.T.Sources.reading c.args.sources.now).stated in
    let t = table_of coded_byte c.part.new.store in
    let own : t.sources ≡ st.sizes = c.in_ok-rope.ensures.sources ∙ ap (λ (h : Held Coded). h.sources) c.in_ok-store.ensures.ok in
    record {
      reads = not_read (g.T.Sources.reading c.args.sources.now) (g.T.Sources.reading c.put.new.sources) _ _ c.in_ok-put.ensures.reads (λ is. absurd cc);
      ok = of_part t st 0 c.args.start c.args.count c.in_ok-rope.rope 0 _ (Appends (g.W.Write.contents c.args.writer.now) (g.W.Write.contents c.put.new.writer)) own c.in_ok-rope.ensures.ok c.in_ok-put.ensures.ok;
      err = tt;
      fault = tt;
    }
