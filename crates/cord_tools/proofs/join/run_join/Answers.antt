use Rattle.std.proofs.Common.{◌∙◌, Err, ap, arith, inl, inr, refl}
use Rattle.std.specs.Prelude.{◌<◌, ◌^◌}
use Rattle.std.specs.List.{sum}
use Rattle.std.specs.Io.KnownBytes.{Appends}
use Rattle.std.proofs.lemmas.Result.{err_from_is_err_and}
use Rattle.function_leaf.specs.Coded.{coded_byte}
use Rattle.function_leaf.specs.declared.coded.Coded.{Coded}
use Rattle.node_table.specs.Held.{Held, table_of}
use Rattle.node_table.specs.declared.fault.NodeFault.TheVariants as Node
use Rattle.rebalance.specs.declared.fault.BalanceFault.TheVariants as Balance
use Rattle.byte_output.specs.Prefix.{AppendsPrefix}
use Rattle.cord_tools.specs.Files.{all_cells}
use Rattle.cord_tools.proofs.Bytes.{Keeps-same, no_byte}
use Rattle.cord_tools.proofs.Joined.{of_all}
use Rattle.cord_tools.proofs.ToolFaults.{put_joins, put_refuses_none, refused_as, rope_reads_none, rope_writes_none}
use Rattle.cord_tools.proofs.UnreadCells.{not_read, put_read}
use Rattle.cord_tools.proofs.join.run_join.Goals as goal

pub returns-in_err-rope : goal.returns-in_err-rope
returns-in_err-rope g c =
    let p = err_from_is_err_and c.from_residual-in_err-rope.result c.from_residual-in_err-rope.ensures.1 in
    let old = g.W.Write.contents c.args.writer.now in
    let e = c.in_err-rope.field-0.0 in
    let own = ap (λ (h : Held Coded). sum h.sources) c.in_ok-store.ensures.ok in
    rw (p.1, p.2) (record {
      reads = not_read (g.T.Sources.reading c.args.sources.now) (g.T.Sources.reading c.args.sources.now) _ _ refl (λ is. rope_reads_none e cc);
      ok = tt;
      err = λ source agrees stated. no_byte old _;
      fault = c.in_err-rope.ensures.fault;
      refused = λ fault is. Keeps-same old;
      too_long = λ is. omega (arith, c.in_err-rope.ensures.too_long (ap Err (refused_as e (Balance.Node Node.TooLong) cc)), own);
      short = λ is. elim is [
        | inl ok ↦ absurd cc
        | inr stop ↦ elim stop [ inl write ↦ absurd (rope_writes_none e cc) | inr read ↦ absurd (rope_reads_none e cc) ]
      ];
      long = λ long. Keeps-same old;
    })

pub returns-in_err-put : goal.returns-in_err-put
returns-in_err-put g c =
    let p = err_from_is_err_and c.from_residual-in_err-put.result c.from_residual-in_err-put.ensures.1 in
    let st = (g.T.Sources.reading c.args.sources.now).stated in
    let t = table_of coded_byte c.join_sources.new.store in
    let e = c.in_err-put.field-0.0 in
    let own = ap (λ (h : Held Coded). sum h.sources) c.in_ok-store.ensures.ok in
    let cells = c.in_ok-rope.ensures.text ∙ ap (λ (h : Held Coded). all_cells h.sources) c.in_ok-store.ensures.ok in
    let small : sum st.sizes < 2 ^ 40 = omega (arith, c.in_ok-rope.ensures.short, own) in
    rw (p.1, p.2) (record {
      reads = put_read (g.T.Sources.reading c.args.sources.now) (g.T.Sources.reading c.put.new.sources) t c.in_ok-rope.rope _ e _ cells c.in_err-put.ensures.reads;
      ok = tt;
      err = of_all t st c.in_ok-rope.rope (AppendsPrefix (g.W.Write.contents c.args.writer.now) (g.W.Write.contents c.put.new.writer)) cells c.in_err-put.ensures.err;
      fault = put_joins e;
      refused = λ fault is. absurd (put_refuses_none e fault cc);
      too_long = λ is. absurd (put_refuses_none e (Balance.Node Node.TooLong) cc);
      short = λ is. small;
      long = λ long. absurd (omega (arith, small, long));
    })

pub returns : goal.returns
returns g c =
    let st = (g.T.Sources.reading c.args.sources.now).stated in
    let t = table_of coded_byte c.join_sources.new.store in
    let own = ap (λ (h : Held Coded). sum h.sources) c.in_ok-store.ensures.ok in
    let cells = c.in_ok-rope.ensures.text ∙ ap (λ (h : Held Coded). all_cells h.sources) c.in_ok-store.ensures.ok in
    let small : sum st.sizes < 2 ^ 40 = omega (arith, c.in_ok-rope.ensures.short, own) in
    record {
      reads = not_read (g.T.Sources.reading c.args.sources.now) (g.T.Sources.reading c.put.new.sources) _ _ c.in_ok-put.ensures.reads (λ is. absurd cc);
      ok = of_all t st c.in_ok-rope.rope (Appends (g.W.Write.contents c.args.writer.now) (g.W.Write.contents c.put.new.writer)) cells c.in_ok-put.ensures.ok;
      err = tt;
      fault = tt;
      refused = λ fault is. absurd cc;
      too_long = λ is. absurd cc;
      short = λ is. small;
      long = λ long. absurd (omega (arith, small, long));
    }
