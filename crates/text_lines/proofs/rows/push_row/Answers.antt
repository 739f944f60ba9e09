use Rattle.std.proofs.Common.{◌≡◌, ◌+◌, ◌-◌, ◌++◌, ℕ, List, length, map, take, drop, ap, subst, ◌∙◌, arith, length-append, length-drop, length-take}
use Rattle.rope_node.specs.Denotes.{rope_cells, text}
use Rattle.text_lines.specs.Screen.{glyph}
use Rattle.text_lines.proofs.RowLaws.{glyphs_more}
use Rattle.text_lines.proofs.ToldLater.{told_then}
use Rattle.text_lines.proofs.rows.push_row.Goals as goal

pub loop-place-preserved : goal.loop-place-preserved
loop-place-preserved g c =
    let place : ℕ = c.loop-place.place in
    let to : ℕ = place + c.min.result in
    let near = c.read_part.new.buffer in
    let few : length (take (to - place) c.loop-place.buffer) ≡ to - place = omega (arith, length-take (to - place) c.loop-place.buffer, c.loop-place.invariant.room, c.loop-place.invariant.from, c.min.ensures, c.loop-place-test.true, c.requires.row) in
    record {
      reads = c.in_ok-read_part.ensures.reads ∙ c.loop-place.invariant.reads;
      from = omega (arith, c.loop-place.invariant.from);
      until = omega (arith, c.min.ensures, c.loop-place-test.true);
      room = omega (arith, length-append near (drop (to - place) c.loop-place.buffer), length-drop (to - place) c.loop-place.buffer, c.in_ok-read_part.ensures.length, few, c.loop-place.invariant.room, c.loop-place.invariant.from, c.min.ensures, c.loop-place-test.true, c.requires.row);
      told = λ source agrees stated.
          let t = g.S.NodeSpace.table c.args.space.now in
          let u = text source (rope_cells t c.args.rope) in
          let read = told_then t (g.T.Sources.reading c.args.sources.now) (g.T.Sources.reading c.loop-place.sources) c.args.rope (λ v. near ≡ take (length (take (to - place) c.loop-place.buffer)) (drop place v)) c.loop-place.invariant.reads c.in_ok-read_part.ensures.bytes source agrees stated in
          let more = c.in_ok-push_glyphs-2.ensures ∙ ap (λ (xs : List ℕ). c.loop-place.out.items ++ map glyph xs) (read ∙ ap (λ (m : ℕ). take m (drop place u)) few) in
          glyphs_more u c.args.out.now.items c.loop-place.out.items c.push_glyphs-in-loop-place.new.out.items c.args.start place to c.loop-place.invariant.from (omega arith) (c.loop-place.invariant.told source agrees stated) more;
    }

pub returns-clause-bytes : goal.returns-clause-bytes
returns-clause-bytes g c source agrees stated =
    let u = text source (rope_cells (g.S.NodeSpace.table c.args.space.now) c.args.rope) in
    let all : c.loop-place.place - c.args.start ≡ c.args.end - c.args.start = omega (arith, c.loop-place-test.false, c.loop-place.invariant.until) in
    subst (λ (n : ℕ). c.loop-place.out.items ≡ c.args.out.now.items ++ map glyph (take n (drop c.args.start u))) all (c.loop-place.invariant.told source agrees stated)
