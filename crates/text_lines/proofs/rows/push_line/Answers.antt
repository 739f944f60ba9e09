use Rattle.std.proofs.Common.{◌≡◌, ◌+◌, ◌-◌, ◌++◌, ℕ, length, map, take, drop, sym, ap, subst, ◌∙◌, arith}
use Rattle.rope_node.specs.Denotes.{rope_cells, text}
use Rattle.cord_search.proofs.Fetches.{text_length}
use Rattle.text_lines.specs.Screen.{glyph}
use Rattle.text_lines.specs.Lines.{line_end, next_line}
use Rattle.text_lines.proofs.RowLaws.{line_pushed}
use Rattle.text_lines.proofs.ToldLater.{held_then, told_then}
use Rattle.text_lines.proofs.rows.push_line.Goals as goal

pub returns-clause-line : goal.returns-clause-line
returns-clause-line g c source agrees stated =
    let t = g.S.NodeSpace.table c.args.space.now in
    let u = text source (rope_cells t c.args.rope) in
    let end = c.in_ok-end.end in
    let n = c.saturating_sub-rest.result in
    let long : length u ≡ c.rope_len.result = text_length t c.args.rope source ∙ sym c.rope_len.ensures.cells in
    let bytes = told_then t (g.T.Sources.reading c.args.sources.now) (g.T.Sources.reading c.near_end.new.sources) c.args.rope (λ v. c.push_row.new.out.items ≡ c.args.out.now.items ++ map glyph (take (end - n + c.min.result - (end - n)) (drop (end - n) v))) c.in_ok-end.ensures.reads c.in_ok-push_row.ensures.bytes source agrees stated in
    let pushed = subst (λ (m : ℕ). c.push_row.new.out.items ≡ c.args.out.now.items ++ map glyph (take (end - n + m - (end - n)) (drop (end - n) u))) c.min.ensures bytes in
    rw c.in-Some.is (line_pushed u c.args.out.now.items c.push_row.new.out.items c.in-Some.start c.args.left end n c.pass_line-next.result c.in_ok-end.ensures.from (omega (arith, long, c.in_ok-end.ensures.inside, c.rope_len.ensures.exact)) (c.in_ok-end.ensures.is source agrees stated) c.saturating_sub-rest.ensures pushed
    (c.pass_line-next.ensures.next ∙ ap (next_line end) (sym long)))

pub push_row-requires-clause-held : goal.push_row-requires-clause-held
push_row-requires-clause-held g c = record {
  told = λ source agrees stated.
      let t = g.S.NodeSpace.table c.args.space.now in
      let u = text source (rope_cells t c.args.rope) in
      let long : length u ≡ c.rope_len.result = text_length t c.args.rope source ∙ sym c.rope_len.ensures.cells in
      let same = sym c.in_ok-end.ensures.reads in
      let ends = told_then t (g.T.Sources.reading c.near_end.new.sources) (g.T.Sources.reading c.args.sources.now) c.args.rope (λ v. c.in_ok-end.end ≡ line_end v c.in-Some.start) same c.in_ok-end.ensures.is source agrees stated in
      c.pass_line-next.ensures.held u ((held_then same c.in_ok-end.ensures.held).told source agrees stated) (omega (arith, long, c.rope_len.ensures.exact, rw c.in-Some.is at c.requires.start)) ends (sym long);
}

pub returns-clause-held : goal.returns-clause-held
returns-clause-held g c = record {
  told = λ source agrees stated.
      let t = g.S.NodeSpace.table c.args.space.now in
      let u = text source (rope_cells t c.args.rope) in
      let long : length u ≡ c.rope_len.result = text_length t c.args.rope source ∙ sym c.rope_len.ensures.cells in
      c.pass_line-next.ensures.held u (c.in_ok-end.ensures.held.told source agrees stated) (omega (arith, long, c.rope_len.ensures.exact, rw c.in-Some.is at c.requires.start)) (c.in_ok-end.ensures.is source agrees stated) (sym long);
}
