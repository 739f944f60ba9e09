use Rattle.std.proofs.Common.{length}
use Rattle.span_certificate.proofs.ComparedCells.{read_places}
use Rattle.span_certificate.proofs.RunLaws.{pooled_bytes, computed_bytes}
use Rattle.span_certificate.proofs.bytes.fill_described.Goals as goal

pub returns-in-Pooled-clause-bytes : goal.returns-in-Pooled-clause-bytes
returns-in-Pooled-clause-bytes g c =
    pooled_bytes (g.S.CountedSpace.table c.args.space.now) (g.T.Sources.reading c.args.sources.now).stated (length c.args.buffer.now) c.in-Pooled.a c.args.what c.fill_pool.new.buffer c.in-Pooled.is c.fill_pool.ensures

pub returns-in-Computed-clause-bytes : goal.returns-in-Computed-clause-bytes
returns-in-Computed-clause-bytes g c =
    computed_bytes (g.S.CountedSpace.table c.args.space.now) (g.T.Sources.reading c.args.sources.now).stated (length c.args.buffer.now) c.in-Computed.i c.in-Computed.f c.args.what c.fill.new.out c.in-Computed.is c.fill.ensures

pub returns-in-Sourced-clause-reads : goal.returns-in-Sourced-clause-reads
returns-in-Sourced-clause-reads g c =
    rw c.in-Sourced.is
    (read_places (g.T.Sources.reading c.args.sources.now) (g.T.Sources.reading c.fill_source.new.sources) c.in-Sourced.s c.in-Sourced.a (length c.args.buffer.now) c.fill_source.result c.fill_source.ensures.reads)
