use Rattle.std.proofs.Common.{◌≡◌, ◌≤◌, length, sym, subst, ◌∙◌, arith}
use Rattle.rope_node.specs.Denotes.{rope_cells, text}
use Rattle.cord_search.proofs.Fetches.{text_length}
use Rattle.text_lines.specs.Rows.{IsAbove, IsLineStart}
use Rattle.text_lines.proofs.HeldLaws.{line_begun}
use Rattle.text_lines.proofs.WindowLaws.{start_begins, window_is}
use Rattle.text_lines.proofs.ToldLater.{held_then, told_then}
use Rattle.text_lines.proofs.window.window_about.Goals as goal

pub returns-clause-is : goal.returns-clause-is
returns-clause-is g c source agrees stated =
    let t = g.S.NodeSpace.table c.args.space.now in
    let u = text source (rope_cells t c.args.rope) in
    let long : length u ≡ c.rope_len.result = text_length t c.args.rope source ∙ sym c.rope_len.ensures.cells in
    let held : c.args.place ≤ length u = omega (arith, long, c.rope_len.ensures.exact, c.requires.place) in
    let above = told_then t (g.T.Sources.reading c.args.sources.now) (g.T.Sources.reading c.near_start.new.sources) c.args.rope (λ v. IsAbove v c.in_ok-start.start c.in_ok-top.top c.in_ok-top.row) c.in_ok-start.ensures.reads c.in_ok-top.ensures.back source agrees stated in
    window_is u c.args.place c.in_ok-start.start c.in_ok-top.top c.in_ok-top.row held (c.in_ok-start.ensures.is source agrees stated) (omega (arith, c.in_ok-top.ensures.inside, c.in_ok-start.ensures.inside)) c.in_ok-top.ensures.few c.in_ok-top.ensures.all above

pub returns-clause-held : goal.returns-clause-held
returns-clause-held g c = record {
  told = λ source agrees stated.
      let t = g.S.NodeSpace.table c.args.space.now in
      let u = text source (rope_cells t c.args.rope) in
      let long : length u ≡ c.rope_len.result = text_length t c.args.rope source ∙ sym c.rope_len.ensures.cells in
      let inside : c.args.place ≤ length u = omega (arith, long, c.rope_len.ensures.exact, c.requires.place) in
      let held = (held_then c.in_ok-start.ensures.reads c.in_ok-top.ensures.held).told source agrees stated in
      let above = told_then t (g.T.Sources.reading c.args.sources.now) (g.T.Sources.reading c.near_start.new.sources) c.args.rope (λ v. IsAbove v c.in_ok-start.start c.in_ok-top.top c.in_ok-top.row) c.in_ok-start.ensures.reads c.in_ok-top.ensures.back source agrees stated in
      let begins : IsLineStart u c.in_ok-start.start = subst (IsLineStart u) (sym (c.in_ok-start.ensures.is source agrees stated)) (start_begins u c.args.place inside) in
      rw c.begin_line.ensures (line_begun u c.go_back.new.held c.in_ok-top.top held (above.begins begins));
}
