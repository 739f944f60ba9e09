use Rattle.std.proofs.Common.{refl, sym, ◌∙◌}
use Rattle.rope_node.specs.declared.node.NodeView.TheVariants.{Lit, Src, Fun}
use Rattle.span_descent.proofs.Describing.{describes}
use Rattle.span_descent.proofs.description.describe.Goals as goal

pub returns-in-Lit-clause-describes : goal.returns-in-Lit-clause-describes
returns-in-Lit-clause-describes g c =
    describes (g.S.CountedSpace.table c.args.space.now) c.requires.sound (g.S.CountedSpace.coded c.args.space.now c.args.leaf.0) c.args.leaf.0 c.args.start c.requires.there (Lit c.in-Lit.a) (sym c.requires.view ∙ c.in-Lit.is) (g.met.S.CountedSpace.answered c.args.space.now c.args.leaf.0) _ refl

pub returns-in-Src-clause-describes : goal.returns-in-Src-clause-describes
returns-in-Src-clause-describes g c =
    describes (g.S.CountedSpace.table c.args.space.now) c.requires.sound (g.S.CountedSpace.coded c.args.space.now c.args.leaf.0) c.args.leaf.0 c.args.start c.requires.there (Src c.in-Src.s c.in-Src.a) (sym c.requires.view ∙ c.in-Src.is) (g.met.S.CountedSpace.answered c.args.space.now c.args.leaf.0) _ refl

pub returns-in-Fun-clause-describes : goal.returns-in-Fun-clause-describes
returns-in-Fun-clause-describes g c =
    rw (c.describe_function.ensures, c.look_coded.ensures.value)
    (describes (g.S.CountedSpace.table c.args.space.now) c.requires.sound (g.S.CountedSpace.coded c.args.space.now c.args.leaf.0) c.args.leaf.0 c.args.start c.requires.there Fun (sym c.requires.view ∙ c.in-Fun.is) (g.met.S.CountedSpace.answered c.args.space.now c.args.leaf.0) _ refl)
