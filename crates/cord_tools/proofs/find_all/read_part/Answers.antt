use Rattle.std.proofs.Common.{◌≡◌, ◌∙◌, ◌<◌, [], length, sym, arith}
use Rattle.std.proofs.lemmas.Bool.{eqb-true}
use Rattle.std.proofs.lemmas.List.{nil_from_length}
use Rattle.std.proofs.lemmas.Result.{err_from_is_err_and}
use Rattle.cord_tools.proofs.FoundPlaces.{none_stand, part_unread, read_stands, some_bytes}
use Rattle.cord_tools.proofs.find_all.read_part.Goals as goal

pub returns-then-is_empty-clause-part : goal.returns-then-is_empty-clause-part
returns-then-is_empty-clause-part g c =
    let none : c.args.part.now ≡ [] = nil_from_length c.args.part.now (eqb-true _ 0 (sym c.is_empty.ensures ∙ c.if-is_empty.true)) in
    none_stand (g.T.Sources.reading c.args.sources.now).stated c.args.from c.args.part.now none (omega (arith, c.requires))

pub returns-in_err-read-clause-reads : goal.returns-in_err-read-clause-reads
returns-in_err-read-clause-reads g c =
    let p = err_from_is_err_and c.from_residual.result c.from_residual.ensures.1 in
    let some : 0 < length c.args.part.now = some_bytes (length c.args.part.now) c.is_empty.result c.is_empty.ensures c.if-is_empty.false in
    rw (p.1, p.2) (part_unread (g.T.Sources.reading c.args.sources.now) (g.T.Sources.reading c.read.new.self) c.args.from (length c.args.part.now) c.in_err-read.field-0.0 some c.requires c.in_err-read.ensures.reads)

pub returns-clause-part : goal.returns-clause-part
returns-clause-part g c =
    read_stands (g.T.Sources.reading c.args.sources.now).stated c.args.from (length c.args.part.now) c.read.new.buffer c.read.auto.buffer c.requires c.in_ok-read.ensures.bytes
