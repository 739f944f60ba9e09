use Rattle.std.proofs.Common.{◌≡◌, ◌-◌, ◌≤◌, length, sym, ◌∙◌, arith}
use Rattle.rope_node.specs.Denotes.{rope_cells, text}
use Rattle.cord_search.proofs.Fetches.{text_length}
use Rattle.text_lines.specs.Lines.{line_start}
use Rattle.text_lines.proofs.WindowLaws.{above_more}
use Rattle.text_lines.proofs.ToldLater.{held_then, told_then}
use Rattle.text_lines.proofs.window.go_back.Goals as goal

pub loop-row-preserved : goal.loop-row-preserved
loop-row-preserved g c = record {
  reads = c.in_ok-top.ensures.reads ∙ c.loop-row.invariant.reads;
  inside = omega (arith, c.in_ok-top.ensures.inside, c.loop-row.invariant.inside);
  few = omega (arith, c.loop-row-test.true);
  held = held_then c.loop-row.invariant.reads c.in_ok-top.ensures.held;
  told = λ source agrees stated.
      let t = g.S.NodeSpace.table c.args.space.now in
      let u = text source (rope_cells t c.args.rope) in
      let top = c.loop-row.top in
      let long : length u ≡ c.rope_len.result = text_length t c.args.rope source ∙ sym c.rope_len.ensures.cells in
      let held : top ≤ length u = omega (arith, long, c.rope_len.ensures.exact, c.requires.start, c.loop-row.invariant.inside) in
      let next = told_then t (g.T.Sources.reading c.args.sources.now) (g.T.Sources.reading c.loop-row.sources) c.args.rope (λ v. c.in_ok-top.top ≡ line_start v (top - 1)) c.loop-row.invariant.reads c.in_ok-top.ensures.is source agrees stated in
      above_more u c.args.start top c.in_ok-top.top c.loop-row.row (c.loop-row.invariant.told source agrees stated) (omega (arith, c.if-top-gt0.true)) held next;
}
