use Rattle.std.proofs.Common.{sym, ◌∙◌, arith}
use Rattle.cord_search.proofs.Orders.{whole_order}
use Rattle.cord_search.proofs.compare.cmp.Goals as goal

pub returns-clause-order : goal.returns-clause-order
returns-clause-order g c =
    whole_order (g.S.NodeSpace.table c.args.space.now) (g.T.Sources.reading c.args.sources.now).stated c.args.x c.args.y c.max-n.result c.ncmp.result
    (sym c.rope_len.ensures.cells ∙ c.rope_len.ensures.exact) (sym c.rope_len-2.ensures.cells ∙ c.rope_len-2.ensures.exact)
    (omega (arith, c.max-n.ensures, c.rope_len.ensures.cells)) (omega (arith, c.max-n.ensures, c.rope_len-2.ensures.cells)) c.ncmp.ensures.order
