use Rattle.std.proofs.Common.{◌≡◌, ◌∙◌, [], sym, subst}
use Rattle.std.proofs.lemmas.Bool.{eqb-true}
use Rattle.std.proofs.lemmas.List.{nil_from_length}
use Rattle.rope_node.specs.Denotes.{rope_cells, text}
use Rattle.cord_search.specs.Places.{IsFirst}
use Rattle.cord_search.proofs.pattern.find.Goals as goal

pub returns-then-is_empty-clause-found : goal.returns-then-is_empty-clause-found
returns-then-is_empty-clause-found g c source agrees stated =
    let u = text source (rope_cells (g.S.NodeSpace.table c.args.space.now) c.args.x) in
    let none : c.args.pattern.now ≡ [] = nil_from_length c.args.pattern.now (eqb-true _ 0 (sym c.is_empty.ensures ∙ c.if-is_empty.true)) in
    subst (λ s. IsFirst s u c.args.start c.find_empty.result) (sym none) (c.find_empty.ensures.found source)
