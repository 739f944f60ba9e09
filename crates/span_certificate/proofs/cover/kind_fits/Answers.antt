use Rattle.std.proofs.Common.{arith}
use Rattle.span_certificate.proofs.Verdicts.{shared_fits, bytes_compare, bytes_fits}
use Rattle.span_certificate.proofs.cover.kind_fits.Goals as goal

pub returns-then-part_leads-clause-fits : goal.returns-then-part_leads-clause-fits
returns-then-part_leads-clause-fits g c =
    shared_fits (g.S.CountedSpace.table c.args.space.now) (g.S.CountedSpace.coded c.args.space.now) (g.T.Sources.reading c.args.sources.now).stated c.args.part c.args.off c.args.root c.args.place c.length.result c.args.row c.in-Shared.node c.in-Shared.at c.part_leads-then-part_leads.result
    c.in-Shared.is (c.part_leads.ensures.leads.0 c.if-part_leads.true) c.part_leads-then-part_leads.ensures.leads

pub returns-else-row-gt-BYTES_LIMIT-clause-fits : goal.returns-else-row-gt-BYTES_LIMIT-clause-fits
returns-else-row-gt-BYTES_LIMIT-clause-fits g c =
    bytes_fits (g.S.CountedSpace.table c.args.space.now) (g.S.CountedSpace.coded c.args.space.now) (g.T.Sources.reading c.args.sources.now).stated c.args.part c.args.off c.args.root c.args.place c.length.result c.args.row c.same_bytes.result
    c.in-Bytes.is (omega arith) (omega (arith, c.length.ensures.exact)) c.same_bytes.ensures.same

pub returns-else-row-gt-BYTES_LIMIT-clause-reads : goal.returns-else-row-gt-BYTES_LIMIT-clause-reads
returns-else-row-gt-BYTES_LIMIT-clause-reads g c =
    rw (bytes_compare (g.S.CountedSpace.table c.args.space.now) c.args.part c.args.off c.args.root c.args.place c.length.result c.args.row c.in-Bytes.is (omega (arith, c.length.ensures.exact))) c.same_bytes.ensures.reads
