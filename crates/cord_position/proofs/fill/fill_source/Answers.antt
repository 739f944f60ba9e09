use Rattle.std.proofs.Common.{◌≡◌, false, length, rules}
use Rattle.cord_position.proofs.LeafParts.{outcome_bytes, read_span, refuse_span}
use Rattle.lazy_file.specs.SourceTexts.{holds_span}
use Rattle.cord_position.proofs.fill.fill_source.Goals as goal

pub returns-clause-bytes : goal.returns-clause-bytes
returns-clause-bytes g c =
    outcome_bytes (g.T.Sources.reading c.args.sources.now).stated c.args.s c.args.place (length c.args.buffer.now) c.read.new.buffer c.read.result c.requires c.read.auto.buffer c.read.ensures.bytes

pub returns-clause-reads : goal.returns-clause-reads
returns-clause-reads g c = read_span (g.T.Sources.reading c.args.sources.now) (g.T.Sources.reading c.read.new.self) c.args.s c.args.place (length c.args.buffer.now) c.read.result c.requires c.read.ensures.reads

pub returns-then-s-from-clause-reads : goal.returns-then-s-from-clause-reads
returns-then-s-from-clause-reads g c =
    let n = length c.args.buffer.now in
    let missing : holds_span (g.T.Sources.reading c.args.sources.now).stated c.args.s c.args.place n ≡ false = search rules in
    refuse_span (g.T.Sources.reading c.args.sources.now) c.args.s c.args.place n c.requires missing
