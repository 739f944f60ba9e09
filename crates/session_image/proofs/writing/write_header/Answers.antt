use Rattle.std.proofs.Common.{◌≡◌, ◌∙◌, length, map}
use Rattle.std.proofs.lemmas.List.{length-map}
use Rattle.std.proofs.lemmas.List.FromFn.{length-map-range_with_len}
use Rattle.image_reader.specs.Layout.{spelled}
use Rattle.image_reader.specs.Spelling.{header_layout, header_numbers}
use Rattle.session_image.specs.Gathering.{output}
use Rattle.session_image.specs.Written.{image_of, nodes_of, recorded_revision}
use Rattle.session_image.proofs.Gathering.{gathers_slice}
use Rattle.session_image.proofs.writing.write_header.Goals as goal

pub returns : goal.returns
returns g c =
    let v = c.args.session.now in
    let sources : c.source_count.result ≡ length v.held.sources = rw c.space-space.ensures.store at c.source_count.ensures in
    let nodes : c.count.result ≡ length (nodes_of v.held) = rw length-map-range_with_len (rw c.space-space.ensures.store at c.count.ensures.count) in
    let revisions : c.count-2.result ≡ length (map recorded_revision v.revisions) = rw length-map c.count-2.ensures.value in
    let pool : c.pool_len.result ≡ length v.held.pool.bytes = rw c.space-space.ensures.store at c.pool_len.ensures.value in
    let same : c.as_slice.result.now ≡ spelled header_layout (header_numbers (image_of v)) = c.as_slice.ensures ∙ (rw (sources, nodes, revisions, c.requires.splices, c.requires.rows, pool) at c.header_record.ensures) in
    gathers_slice (output g.W.Write.contents c.args.writer.now) (output g.W.Write.contents c.put.new.self) _ _ c.put.result same c.put.ensures
