use Rattle.std.proofs.Common.{◌≡◌, ◌+◌, ◌≤◌, Option, Some, ap, ◌∙◌, arith}
use Rattle.rope_node.specs.Denotes.{rope_len}
use Rattle.command_parts.specs.declared.part.Part.{Part}
use Rattle.command_parts.specs.Parts.{part_len, part_at}
use Rattle.command_parts.specs.Places.{held}
use Rattle.span_certificate.proofs.Verdicts.{row_tells, joined_compare}
use Rattle.span_certificate.proofs.cover.row_fits.Goals as goal

pub returns-else-row-root_left-clause-fits : goal.returns-else-row-root_left-clause-fits
returns-else-row-root_left-clause-fits g c = λ parts are at.
    let t = g.S.CountedSpace.table c.args.space.now in
    let here : part_at parts c.args.place ≡ Some (c.in-Some.part, c.args.off) = at ∙ ap (λ (p : Option Part). held p c.args.off) c.in-Some.is in
    let in_part : c.args.off + c.args.row.len ≤ part_len c.in-Some.part = omega (arith, c.requires.part c.in-Some.part c.in-Some.is) in
    let in_root : c.args.place + c.args.row.len ≤ rope_len t c.args.root = omega (arith, c.length.ensures.exact) in
    row_tells t (g.S.CountedSpace.coded c.args.space.now) (g.T.Sources.reading c.args.sources.now).stated parts c.args.root c.args.place c.args.off c.in-Some.part c.args.row c.kind_fits.result
    here (omega arith) in_part in_root c.kind_fits.ensures.fits

pub returns-else-row-root_left-clause-reads : goal.returns-else-row-root_left-clause-reads
returns-else-row-root_left-clause-reads g c = λ parts are at.
    let t = g.S.CountedSpace.table c.args.space.now in
    let here : part_at parts c.args.place ≡ Some (c.in-Some.part, c.args.off) = at ∙ ap (λ (p : Option Part). held p c.args.off) c.in-Some.is in
    let in_part : c.args.off + c.args.row.len ≤ part_len c.in-Some.part = omega (arith, c.requires.part c.in-Some.part c.in-Some.is) in
    rw (joined_compare t c.requires.ways.part.sound c.requires.ways.part.true_records parts c.args.root c.args.place c.args.off c.in-Some.part c.args.row are here in_part) c.kind_fits.ensures.reads
