use Rattle.std.proofs.Common.{[], ◌++◌, ◌∙◌}
use Rattle.std.specs.Io.KnownBytes.{Appends}
use Rattle.byte_output.specs.Prefix.{AppendsPrefix}
use Rattle.image_reader.specs.Spelling.{records_spelling, spelling}
use Rattle.image_reader.specs.Value.{ImageValue, in_version_two}
use Rattle.session_image.proofs.Sections.{appends_nothing, appends_then, failed, of_slice, prefix_then, taken, written}
use Rattle.session_image.proofs.WholeSpelling.{header_of, from_records, joined, last_written}
use Rattle.session_image.proofs.restating.restate.Goals as goal

pub returns-in_err-write_bytes-clause-written : goal.returns-in_err-write_bytes-clause-written
returns-in_err-write_bytes-clause-written g c =
    let v : ImageValue = in_version_two c.args.image.now in
    let a = g.W.Write.contents c.args.writer.now in
    let b = g.W.Write.contents c.write_bytes.new.writer in
    let header : AppendsPrefix a b (header_of v) = of_slice a b c.as_slice.result.now (header_of v) (c.as_slice.ensures ∙ c.restated_header.ensures) c.in_err-write_bytes.ensures.err in
    failed _ _ _ c.from_residual.result c.from_residual.ensures.0 (of_slice a b _ _ (from_records v) (prefix_then a a b [] (header_of v) (records_spelling v ++ v.pool) (appends_nothing a) header))

pub returns-in_err-write_bytes-2-clause-written : goal.returns-in_err-write_bytes-2-clause-written
returns-in_err-write_bytes-2-clause-written g c =
    let v : ImageValue = in_version_two c.args.image.now in
    let a = g.W.Write.contents c.args.writer.now in
    let b = g.W.Write.contents c.write_bytes.new.writer in
    let d = g.W.Write.contents c.write_bytes-2.new.writer in
    let header : Appends a b (header_of v) = taken a b c.as_slice.result.now (header_of v) (c.as_slice.ensures ∙ c.restated_header.ensures) c.in_ok-write_bytes.ensures.ok in
    let records : AppendsPrefix b d (records_spelling v) = of_slice b d c.records.result.now (records_spelling v) c.records.ensures c.in_err-write_bytes-2.ensures.err in
    failed _ _ _ c.from_residual-in_err-write_bytes-2.result c.from_residual-in_err-write_bytes-2.ensures.0 (of_slice a d _ _ (from_records v) (prefix_then a b d (header_of v) (records_spelling v) v.pool header records))

pub returns-clause-written : goal.returns-clause-written
returns-clause-written g c =
    let v : ImageValue = in_version_two c.args.image.now in
    let a = g.W.Write.contents c.args.writer.now in
    let b = g.W.Write.contents c.write_bytes.new.writer in
    let d = g.W.Write.contents c.write_bytes-2.new.writer in
    let header : Appends a b (header_of v) = taken a b c.as_slice.result.now (header_of v) (c.as_slice.ensures ∙ c.restated_header.ensures) c.in_ok-write_bytes.ensures.ok in
    let records : Appends b d (records_spelling v) = taken b d c.records.result.now (records_spelling v) c.records.ensures c.in_ok-write_bytes-2.ensures.ok in
    let e = g.W.Write.contents c.write_bytes-3.new.writer in
    last_written a d e (header_of v ++ records_spelling v) v.pool (spelling v) c.write_bytes-3.result (joined v) (appends_then a b d (header_of v) (records_spelling v) header records)
    (written d e c.pool.result.now v.pool c.write_bytes-3.result c.pool.ensures c.write_bytes-3.ensures.ok c.write_bytes-3.ensures.err)
