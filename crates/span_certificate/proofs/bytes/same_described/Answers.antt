use Rattle.std.proofs.lemmas.Result.{err_from_is_err_and}
use Rattle.span_descent.specs.Leads.{described_cells}
use Rattle.std.proofs.Common.{◌≡◌, Err, length}
use Rattle.span_certificate.proofs.RunLaws.{tells_same, first_read, second_read}
use Rattle.span_certificate.proofs.bytes.same_described.Goals as goal

pub returns-clause-same : goal.returns-clause-same
returns-clause-same g c =
    let t = g.S.CountedSpace.table c.args.space.now in
    let st = (g.T.Sources.reading c.args.sources.now).stated in
    let same : g.T.Sources.reading c.fill_described.new.sources ≡ g.T.Sources.reading c.args.sources.now = c.in_ok-fill_described.ensures.reads in
    tells_same st (described_cells t (length c.args.bytes.now) c.args.what) (described_cells t (length c.args.bytes.now) c.args.other) c.fill_described.new.buffer c.fill_described-2.new.buffer c.is_same.result
    c.is_same.ensures c.in_ok-fill_described.ensures.bytes (rw (same, c.requires.len) at c.in_ok-fill_described-2.ensures.bytes)

pub returns-in_err-fill_described-clause-reads : goal.returns-in_err-fill_described-clause-reads
returns-in_err-fill_described-clause-reads g c =
    let t = g.S.CountedSpace.table c.args.space.now in
    let n = length c.args.bytes.now in
    let p = err_from_is_err_and c.from_residual.result c.from_residual.ensures.1 in
    rw (p.1, p.2)
    (first_read {X = Unit {0}} (g.T.Sources.reading c.args.sources.now) (g.T.Sources.reading c.fill_described.new.sources) (described_cells t n c.args.what) (described_cells t n c.args.other) (Err c.in_err-fill_described.field-0.0)
    c.in_err-fill_described.ensures.reads)

pub returns-in_err-fill_described-2-clause-reads : goal.returns-in_err-fill_described-2-clause-reads
returns-in_err-fill_described-2-clause-reads g c =
    let t = g.S.CountedSpace.table c.args.space.now in
    let n = length c.args.bytes.now in
    let p = err_from_is_err_and c.from_residual-in_err-fill_described-2.result c.from_residual-in_err-fill_described-2.ensures.1 in
    rw (p.1, p.2)
    (second_read {X = Unit {0}} (g.T.Sources.reading c.args.sources.now) (g.T.Sources.reading c.fill_described.new.sources) (g.T.Sources.reading c.fill_described-2.new.sources) (described_cells t n c.args.what) (described_cells t n c.args.other)
    (Err c.in_err-fill_described-2.field-0.0) c.in_ok-fill_described.ensures.reads (rw c.requires.len at c.in_err-fill_described-2.ensures.reads))
