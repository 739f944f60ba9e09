use Rattle.std.proofs.Common.{refl, sym, ◌∙◌, subst}
use Rattle.span_certificate.specs.declared.content.Content.TheVariants.{Within, Described}
use Rattle.span_certificate.specs.SpanRows.{CellsAs}
use Rattle.span_certificate.proofs.Contents.{part_content, described_as, described_only}
use Rattle.span_certificate.proofs.NextRows.{old_next, described_next, old_longest, beside_longest}
use Rattle.span_certificate.proofs.making.next_row.Goals as goal

pub next_leaf-requires-clause-same : goal.next_leaf-requires-clause-same
next_leaf-requires-clause-same g c =
    let t = g.S.CountedSpace.table c.args.space.now in
    subst (CellsAs c.args.y.len c.in-Described.d) (sym (part_content t c.args.part c.args.off c.args.y.len (Described c.in-Described.d) c.in-Described.ensures.value c.requires.inside) ∙ c.requires.same)
    (described_as t c.args.y.len c.in-Described.d)

pub next_old-requires-clause-same : goal.next_old-requires-clause-same
next_old-requires-clause-same g c =
    sym (part_content (g.S.CountedSpace.table c.args.space.now) c.args.part c.args.off c.args.y.len (Within c.in-Within.node c.in-Within.start) c.in-Within.ensures.value c.requires.inside) ∙ c.requires.same

pub returns-in-Described-clause-next : goal.returns-in-Described-clause-next
returns-in-Described-clause-next g c =
    let t = g.S.CountedSpace.table c.args.space.now in
    let coded = g.S.CountedSpace.coded c.args.space.now in
    described_next t coded c.args.part c.in-Described.d c.args.y.node c.args.off c.args.y.start c.args.y.len c.next_leaf.result c.requires.same
    ((described_only t coded c.args.part c.args.off c.next_leaf.result.len c.in-Described.d c.in-Described.ensures.value c.in-Described.d).0 refl) c.next_leaf.ensures.row

pub returns-in-Described-clause-longest : goal.returns-in-Described-clause-longest
returns-in-Described-clause-longest g c =
    beside_longest (g.S.CountedSpace.table c.args.space.now) c.requires.ways.root.sound c.requires.ways.root.true_records c.args.part c.args.y.node c.args.off c.args.y.start c.args.y.len c.next_leaf.result.len c.next_leaf.result.kind
    c.requires.y.there c.requires.y.inside c.next_leaf.ensures.ends

pub returns-in-Within-clause-next : goal.returns-in-Within-clause-next
returns-in-Within-clause-next g c =
    old_next (g.S.CountedSpace.table c.args.space.now) (g.S.CountedSpace.coded c.args.space.now) c.args.part c.in-Within.node c.args.y.node c.in-Within.start c.args.off c.args.y.start c.args.y.len c.next_old.result
    c.in-Within.ensures.value c.requires.same c.next_old.ensures.row

pub returns-in-Within-clause-longest : goal.returns-in-Within-clause-longest
returns-in-Within-clause-longest g c =
    old_longest (g.S.CountedSpace.table c.args.space.now) c.args.part c.in-Within.node c.args.y.node c.in-Within.start c.args.off c.args.y.start c.args.y.len c.next_old.result.len c.next_old.result.kind
    c.in-Within.ensures.value c.next_old.ensures.longest
