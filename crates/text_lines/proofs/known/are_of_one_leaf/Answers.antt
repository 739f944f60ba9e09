use Rattle.std.proofs.Common.{◌≡◌, ℕ, Option, ap, subst, sym, ◌∙◌, arith, IfSome, leb-true}
use Rattle.rope_node.specs.declared.node.NodeId.{NodeId}
use Rattle.rope_node.specs.Table.{Table}
use Rattle.cord_position.specs.Runs.{IsLeafRun, rope_span, run_left}
use Rattle.text_lines.proofs.ToldCells.{span_source}
use Rattle.text_lines.proofs.known.are_of_one_leaf.Goals as goal

pub returns : goal.returns
returns g c few =
    let t = g.S.NodeSpace.table c.args.space.now in
    let pos = c.set-pos.result in
    let table : g.S.NodeSpace.table pos.space ≡ t = ap g.S.NodeSpace.table c.set-pos.ensures.space in
    let index : pos.index ≡ c.args.place = c.set-pos.ensures.index ∙ omega (arith, c.requires.inside) in
    let run =
    subst (λ (u : Table). IfSome (rope_span u c.args.rope c.args.place) (IsLeafRun u c.args.rope c.args.place)) table
    (subst (λ (r : Option NodeId). IfSome (rope_span (g.S.NodeSpace.table pos.space) r c.args.place) (IsLeafRun (g.S.NodeSpace.table pos.space) r c.args.place)) c.set-pos.ensures.rope
    (subst (λ (j : ℕ). IfSome (rope_span (g.S.NodeSpace.table pos.space) pos.rope j) (IsLeafRun (g.S.NodeSpace.table pos.space) pos.rope j)) index c.run_left-left.ensures.run)) in
    let left : run_left t c.args.rope c.args.place ≡ c.run_left-left.result =
    sym (c.run_left-left.ensures.exact ∙ ap (λ (j : ℕ). run_left (g.S.NodeSpace.table pos.space) pos.rope j) index ∙ ap (λ (r : Option NodeId). run_left (g.S.NodeSpace.table pos.space) r c.args.place) c.set-pos.ensures.rope ∙ ap (λ (u : Table). run_left u c.args.rope c.args.place) table) in
    span_source t c.count-count.ensures.sound c.args.rope c.args.place c.args.count (rope_span t c.args.rope c.args.place) run c.requires.some (omega (arith, leb-true c.args.count c.run_left-left.result few, left))
