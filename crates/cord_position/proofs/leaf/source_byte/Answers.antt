use Rattle.std.specs.Prelude.{Err}
use Rattle.std.proofs.lemmas.Result.{err_from_is_err_and}
use Rattle.lazy_file.specs.SourceTexts.{holds_span}
use Rattle.cord_position.proofs.LeafParts.{read_span, refuse_span}
use Rattle.std.proofs.Common.{◌≡◌, false, rules, arith, get_or, ap}
use Rattle.lazy_file.proofs.AgreedBytes.{agreed_read}
use Rattle.cord_position.proofs.leaf.source_byte.Goals as goal

pub returns-clause-byte : goal.returns-clause-byte
returns-clause-byte g c source agrees stated =
    ap (λ xs. get_or xs 0 0) (agreed_read (g.T.Sources.reading c.args.sources.now).stated source c.args.s c.args.place 1 c.read.new.buffer agrees stated c.read.auto.buffer c.in_ok-read.ensures.bytes)

pub returns-in_err-read-clause-reads : goal.returns-in_err-read-clause-reads
returns-in_err-read-clause-reads g c =
    let p = err_from_is_err_and c.from_residual.result c.from_residual.ensures.1 in
    rw (p.1, p.2) (read_span {X = Unit {0}} (g.T.Sources.reading c.args.sources.now) (g.T.Sources.reading c.read.new.self) c.args.s c.args.place 1 (Err c.in_err-read.field-0.0) (omega arith) c.in_err-read.ensures.reads)

pub returns-then-s-from-clause-reads : goal.returns-then-s-from-clause-reads
returns-then-s-from-clause-reads g c =
    let missing : holds_span (g.T.Sources.reading c.args.sources.now).stated c.args.s c.args.place 1 ≡ false = search rules in
    refuse_span (g.T.Sources.reading c.args.sources.now) c.args.s c.args.place 1 (omega arith) missing
