use Rattle.std.proofs.Common.{◌∙◌, ◌+◌, sym, subst}
use Rattle.rope_node.specs.Denotes.{rope_cells, rope_len, text}
use Rattle.cord_position.specs.Fetched.{rope_cell}
use Rattle.text_lines.specs.Rows.{PushesLine}
use Rattle.text_lines.proofs.RowWalk.{IsAtRow, row_more}
use Rattle.text_lines.proofs.Showing.{failed_part}
use Rattle.text_lines.proofs.ToldLater.{held_then, told_then}
use Rattle.text_lines.proofs.rows.push_rows.Goals as goal

pub returns-in_err-next-clause-reads : goal.returns-in_err-next-clause-reads
returns-in_err-next-clause-reads g c =
    let t = g.S.NodeSpace.table c.args.space.now in
    failed_part (g.T.Sources.reading c.args.sources.now) (g.T.Sources.reading c.loop-row.sources) (g.T.Sources.reading c.push_line.new.sources) (rope_cell t c.args.rope) (rope_len t c.args.rope) c.in_err-next.field-0.0 c.from_residual.result c.from_residual.ensures.1 c.loop-row.invariant.reads c.in_err-next.ensures.reads

pub loop-row-preserved : goal.loop-row-preserved
loop-row-preserved g c = record {
  reads = c.in_ok-next.ensures.reads ∙ c.loop-row.invariant.reads;
  inside = c.in_ok-next.ensures.inside;
  held = held_then c.loop-row.invariant.reads c.in_ok-next.ensures.held;
  told = λ source agrees stated.
      let t = g.S.NodeSpace.table c.args.space.now in
      let u = text source (rope_cells t c.args.rope) in
      let shown = c.push_line.new.out.items in
      let line = told_then t (g.T.Sources.reading c.args.sources.now) (g.T.Sources.reading c.loop-row.sources) c.args.rope (λ v. PushesLine v c.loop-row.next c.args.left c.in_ok-next.next c.loop-row.out.items shown) c.loop-row.invariant.reads c.in_ok-next.ensures.line source agrees stated in
      subst (IsAtRow u c.args.top c.args.left (c.loop-row.row + 1) c.in_ok-next.next c.args.out.now.items) (sym c.in_ok-extend_from_slice.ensures.items)
      (row_more u c.args.top c.args.left c.loop-row.row c.loop-row.next c.in_ok-next.next c.args.out.now.items c.loop-row.out.items shown (c.loop-row.invariant.told source agrees stated) line);
}

pub push_line-requires-clause-held : goal.push_line-requires-clause-held
push_line-requires-clause-held g c = held_then (sym c.loop-row.invariant.reads) c.loop-row.invariant.held
