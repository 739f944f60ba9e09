use Rattle.std.proofs.Common.{[], ◌++◌, rules}
use Rattle.std.specs.List.{flat_map}
use Rattle.image_reader.specs.Spelling.{source_spelling, node_spelling, revision_spelling, splice_spelling, row_spelling, spelling}
use Rattle.image_reader.specs.Value.{ImageValue}
use Rattle.session_image.specs.Gathering.{SendsAndHolds, output}
use Rattle.session_image.specs.Written.{image_of}
use Rattle.session_image.proofs.Gathering.{puts_nothing, puts_then, put_failed, sends_slice, sends_then, last_put}
use Rattle.session_image.proofs.WholeSpelling.{all_fit, header_of, to_sources, to_nodes, to_revisions, to_splices, to_rows, from_sources, from_nodes, from_revisions, from_splices, from_rows, from_pool}
use Rattle.session_image.proofs.writing.write_sections.Goals as goal

pub returns-in_err-write_header-clause-written : goal.returns-in_err-write_header-clause-written
returns-in_err-write_header-clause-written g c =
    let v : ImageValue = image_of c.args.session.now in
    let a0 : SendsAndHolds (output g.W.Write.contents c.args.writer.now) (output g.W.Write.contents c.args.writer.now) [] = puts_nothing (output g.W.Write.contents c.args.writer.now) in
    put_failed _ _ _ c.from_residual.result c.from_residual.ensures.0 (sends_slice _ _ _ _ (from_sources v) (sends_then (output g.W.Write.contents c.args.writer.now) (output g.W.Write.contents c.args.writer.now) (output g.W.Write.contents c.write_header.new.writer) ([]) (header_of v) ((flat_map source_spelling v.sources ++ (flat_map node_spelling v.nodes ++ (flat_map revision_spelling v.revisions ++ (flat_map splice_spelling v.splices ++ (flat_map row_spelling v.rows ++ v.pool)))))) a0 c.in_err-write_header.ensures.err))

pub returns-in_err-write_sources-clause-written : goal.returns-in_err-write_sources-clause-written
returns-in_err-write_sources-clause-written g c =
    let v : ImageValue = image_of c.args.session.now in
    let a0 : SendsAndHolds (output g.W.Write.contents c.args.writer.now) (output g.W.Write.contents c.args.writer.now) [] = puts_nothing (output g.W.Write.contents c.args.writer.now) in
    let a1 : SendsAndHolds (output g.W.Write.contents c.args.writer.now) (output g.W.Write.contents c.write_header.new.writer) (header_of v) = puts_then (output g.W.Write.contents c.args.writer.now) (output g.W.Write.contents c.args.writer.now) (output g.W.Write.contents c.write_header.new.writer) ([]) (header_of v) a0 c.in_ok-write_header.ensures.ok in
    put_failed _ _ _ c.from_residual-in_err-write_sources.result c.from_residual-in_err-write_sources.ensures.0 (sends_slice _ _ _ _ (from_sources v) (sends_then (output g.W.Write.contents c.args.writer.now) (output g.W.Write.contents c.write_header.new.writer) (output g.W.Write.contents c.write_sources.new.writer) (header_of v) (flat_map source_spelling v.sources) ((flat_map node_spelling v.nodes ++ (flat_map revision_spelling v.revisions ++ (flat_map splice_spelling v.splices ++ (flat_map row_spelling v.rows ++ v.pool))))) a1 (rw c.space-space.ensures.store at c.in_err-write_sources.ensures.err)))

pub returns-in_err-write_nodes-clause-written : goal.returns-in_err-write_nodes-clause-written
returns-in_err-write_nodes-clause-written g c =
    let v : ImageValue = image_of c.args.session.now in
    let a0 : SendsAndHolds (output g.W.Write.contents c.args.writer.now) (output g.W.Write.contents c.args.writer.now) [] = puts_nothing (output g.W.Write.contents c.args.writer.now) in
    let a1 : SendsAndHolds (output g.W.Write.contents c.args.writer.now) (output g.W.Write.contents c.write_header.new.writer) (header_of v) = puts_then (output g.W.Write.contents c.args.writer.now) (output g.W.Write.contents c.args.writer.now) (output g.W.Write.contents c.write_header.new.writer) ([]) (header_of v) a0 c.in_ok-write_header.ensures.ok in
    let a2 : SendsAndHolds (output g.W.Write.contents c.args.writer.now) (output g.W.Write.contents c.write_sources.new.writer) (to_sources v) = puts_then (output g.W.Write.contents c.args.writer.now) (output g.W.Write.contents c.write_header.new.writer) (output g.W.Write.contents c.write_sources.new.writer) (header_of v) (flat_map source_spelling v.sources) a1 (rw c.space-space.ensures.store at c.in_ok-write_sources.ensures.ok) in
    put_failed _ _ _ c.from_residual-in_err-write_nodes.result c.from_residual-in_err-write_nodes.ensures.0 (sends_slice _ _ _ _ (from_nodes v) (sends_then (output g.W.Write.contents c.args.writer.now) (output g.W.Write.contents c.write_sources.new.writer) (output g.W.Write.contents c.write_nodes.new.writer) (to_sources v) (flat_map node_spelling v.nodes) ((flat_map revision_spelling v.revisions ++ (flat_map splice_spelling v.splices ++ (flat_map row_spelling v.rows ++ v.pool)))) a2 (rw c.space-space.ensures.store at c.in_err-write_nodes.ensures.bytes.err)))

pub returns-in_err-write_revisions-clause-written : goal.returns-in_err-write_revisions-clause-written
returns-in_err-write_revisions-clause-written g c =
    let v : ImageValue = image_of c.args.session.now in
    let a0 : SendsAndHolds (output g.W.Write.contents c.args.writer.now) (output g.W.Write.contents c.args.writer.now) [] = puts_nothing (output g.W.Write.contents c.args.writer.now) in
    let a1 : SendsAndHolds (output g.W.Write.contents c.args.writer.now) (output g.W.Write.contents c.write_header.new.writer) (header_of v) = puts_then (output g.W.Write.contents c.args.writer.now) (output g.W.Write.contents c.args.writer.now) (output g.W.Write.contents c.write_header.new.writer) ([]) (header_of v) a0 c.in_ok-write_header.ensures.ok in
    let a2 : SendsAndHolds (output g.W.Write.contents c.args.writer.now) (output g.W.Write.contents c.write_sources.new.writer) (to_sources v) = puts_then (output g.W.Write.contents c.args.writer.now) (output g.W.Write.contents c.write_header.new.writer) (output g.W.Write.contents c.write_sources.new.writer) (header_of v) (flat_map source_spelling v.sources) a1 (rw c.space-space.ensures.store at c.in_ok-write_sources.ensures.ok) in
    let a3 : SendsAndHolds (output g.W.Write.contents c.args.writer.now) (output g.W.Write.contents c.write_nodes.new.writer) (to_nodes v) = puts_then (output g.W.Write.contents c.args.writer.now) (output g.W.Write.contents c.write_sources.new.writer) (output g.W.Write.contents c.write_nodes.new.writer) (to_sources v) (flat_map node_spelling v.nodes) a2 (rw c.space-space.ensures.store at c.in_ok-write_nodes.ensures.bytes.ok) in
    put_failed _ _ _ c.from_residual-in_err-write_revisions.result c.from_residual-in_err-write_revisions.ensures.0 (sends_slice _ _ _ _ (from_revisions v) (sends_then (output g.W.Write.contents c.args.writer.now) (output g.W.Write.contents c.write_nodes.new.writer) (output g.W.Write.contents c.write_revisions.new.writer) (to_nodes v) (flat_map revision_spelling v.revisions) ((flat_map splice_spelling v.splices ++ (flat_map row_spelling v.rows ++ v.pool))) a3 c.in_err-write_revisions.ensures.bytes.err))

pub returns-in_err-write_splices-clause-written : goal.returns-in_err-write_splices-clause-written
returns-in_err-write_splices-clause-written g c =
    let v : ImageValue = image_of c.args.session.now in
    let a0 : SendsAndHolds (output g.W.Write.contents c.args.writer.now) (output g.W.Write.contents c.args.writer.now) [] = puts_nothing (output g.W.Write.contents c.args.writer.now) in
    let a1 : SendsAndHolds (output g.W.Write.contents c.args.writer.now) (output g.W.Write.contents c.write_header.new.writer) (header_of v) = puts_then (output g.W.Write.contents c.args.writer.now) (output g.W.Write.contents c.args.writer.now) (output g.W.Write.contents c.write_header.new.writer) ([]) (header_of v) a0 c.in_ok-write_header.ensures.ok in
    let a2 : SendsAndHolds (output g.W.Write.contents c.args.writer.now) (output g.W.Write.contents c.write_sources.new.writer) (to_sources v) = puts_then (output g.W.Write.contents c.args.writer.now) (output g.W.Write.contents c.write_header.new.writer) (output g.W.Write.contents c.write_sources.new.writer) (header_of v) (flat_map source_spelling v.sources) a1 (rw c.space-space.ensures.store at c.in_ok-write_sources.ensures.ok) in
    let a3 : SendsAndHolds (output g.W.Write.contents c.args.writer.now) (output g.W.Write.contents c.write_nodes.new.writer) (to_nodes v) = puts_then (output g.W.Write.contents c.args.writer.now) (output g.W.Write.contents c.write_sources.new.writer) (output g.W.Write.contents c.write_nodes.new.writer) (to_sources v) (flat_map node_spelling v.nodes) a2 (rw c.space-space.ensures.store at c.in_ok-write_nodes.ensures.bytes.ok) in
    let a4 : SendsAndHolds (output g.W.Write.contents c.args.writer.now) (output g.W.Write.contents c.write_revisions.new.writer) (to_revisions v) = puts_then (output g.W.Write.contents c.args.writer.now) (output g.W.Write.contents c.write_nodes.new.writer) (output g.W.Write.contents c.write_revisions.new.writer) (to_nodes v) (flat_map revision_spelling v.revisions) a3 c.in_ok-write_revisions.ensures.bytes.ok in
    put_failed _ _ _ c.from_residual-in_err-write_splices.result c.from_residual-in_err-write_splices.ensures.0 (sends_slice _ _ _ _ (from_splices v) (sends_then (output g.W.Write.contents c.args.writer.now) (output g.W.Write.contents c.write_revisions.new.writer) (output g.W.Write.contents c.write_splices.new.writer) (to_revisions v) (flat_map splice_spelling v.splices) (flat_map row_spelling v.rows ++ v.pool) a4 c.in_err-write_splices.ensures.bytes.err))

pub returns-in_err-write_rows-clause-written : goal.returns-in_err-write_rows-clause-written
returns-in_err-write_rows-clause-written g c =
    let v : ImageValue = image_of c.args.session.now in
    let a0 : SendsAndHolds (output g.W.Write.contents c.args.writer.now) (output g.W.Write.contents c.args.writer.now) [] = puts_nothing (output g.W.Write.contents c.args.writer.now) in
    let a1 : SendsAndHolds (output g.W.Write.contents c.args.writer.now) (output g.W.Write.contents c.write_header.new.writer) (header_of v) = puts_then (output g.W.Write.contents c.args.writer.now) (output g.W.Write.contents c.args.writer.now) (output g.W.Write.contents c.write_header.new.writer) ([]) (header_of v) a0 c.in_ok-write_header.ensures.ok in
    let a2 : SendsAndHolds (output g.W.Write.contents c.args.writer.now) (output g.W.Write.contents c.write_sources.new.writer) (to_sources v) = puts_then (output g.W.Write.contents c.args.writer.now) (output g.W.Write.contents c.write_header.new.writer) (output g.W.Write.contents c.write_sources.new.writer) (header_of v) (flat_map source_spelling v.sources) a1 (rw c.space-space.ensures.store at c.in_ok-write_sources.ensures.ok) in
    let a3 : SendsAndHolds (output g.W.Write.contents c.args.writer.now) (output g.W.Write.contents c.write_nodes.new.writer) (to_nodes v) = puts_then (output g.W.Write.contents c.args.writer.now) (output g.W.Write.contents c.write_sources.new.writer) (output g.W.Write.contents c.write_nodes.new.writer) (to_sources v) (flat_map node_spelling v.nodes) a2 (rw c.space-space.ensures.store at c.in_ok-write_nodes.ensures.bytes.ok) in
    let a4 : SendsAndHolds (output g.W.Write.contents c.args.writer.now) (output g.W.Write.contents c.write_revisions.new.writer) (to_revisions v) = puts_then (output g.W.Write.contents c.args.writer.now) (output g.W.Write.contents c.write_nodes.new.writer) (output g.W.Write.contents c.write_revisions.new.writer) (to_nodes v) (flat_map revision_spelling v.revisions) a3 c.in_ok-write_revisions.ensures.bytes.ok in
    let a5 : SendsAndHolds (output g.W.Write.contents c.args.writer.now) (output g.W.Write.contents c.write_splices.new.writer) (to_splices v) = puts_then (output g.W.Write.contents c.args.writer.now) (output g.W.Write.contents c.write_revisions.new.writer) (output g.W.Write.contents c.write_splices.new.writer) (to_revisions v) (flat_map splice_spelling v.splices) a4 c.in_ok-write_splices.ensures.bytes.ok in
    put_failed _ _ _ c.from_residual-in_err-write_rows.result c.from_residual-in_err-write_rows.ensures.0 (sends_slice _ _ _ _ (from_rows v) (sends_then (output g.W.Write.contents c.args.writer.now) (output g.W.Write.contents c.write_splices.new.writer) (output g.W.Write.contents c.write_rows.new.writer) (to_splices v) (flat_map row_spelling v.rows) (v.pool) a5 c.in_err-write_rows.ensures.bytes.err))

pub write_nodes-requires : goal.write_nodes-requires
write_nodes-requires g c = (search rules, rw c.space-space.ensures.store c.requires)

pub returns-clause-written : goal.returns-clause-written
returns-clause-written g c =
    let v : ImageValue = image_of c.args.session.now in
    let a0 : SendsAndHolds (output g.W.Write.contents c.args.writer.now) (output g.W.Write.contents c.args.writer.now) [] = puts_nothing (output g.W.Write.contents c.args.writer.now) in
    let a1 : SendsAndHolds (output g.W.Write.contents c.args.writer.now) (output g.W.Write.contents c.write_header.new.writer) (header_of v) = puts_then (output g.W.Write.contents c.args.writer.now) (output g.W.Write.contents c.args.writer.now) (output g.W.Write.contents c.write_header.new.writer) ([]) (header_of v) a0 c.in_ok-write_header.ensures.ok in
    let a2 : SendsAndHolds (output g.W.Write.contents c.args.writer.now) (output g.W.Write.contents c.write_sources.new.writer) (to_sources v) = puts_then (output g.W.Write.contents c.args.writer.now) (output g.W.Write.contents c.write_header.new.writer) (output g.W.Write.contents c.write_sources.new.writer) (header_of v) (flat_map source_spelling v.sources) a1 (rw c.space-space.ensures.store at c.in_ok-write_sources.ensures.ok) in
    let a3 : SendsAndHolds (output g.W.Write.contents c.args.writer.now) (output g.W.Write.contents c.write_nodes.new.writer) (to_nodes v) = puts_then (output g.W.Write.contents c.args.writer.now) (output g.W.Write.contents c.write_sources.new.writer) (output g.W.Write.contents c.write_nodes.new.writer) (to_sources v) (flat_map node_spelling v.nodes) a2 (rw c.space-space.ensures.store at c.in_ok-write_nodes.ensures.bytes.ok) in
    let a4 : SendsAndHolds (output g.W.Write.contents c.args.writer.now) (output g.W.Write.contents c.write_revisions.new.writer) (to_revisions v) = puts_then (output g.W.Write.contents c.args.writer.now) (output g.W.Write.contents c.write_nodes.new.writer) (output g.W.Write.contents c.write_revisions.new.writer) (to_nodes v) (flat_map revision_spelling v.revisions) a3 c.in_ok-write_revisions.ensures.bytes.ok in
    let a5 : SendsAndHolds (output g.W.Write.contents c.args.writer.now) (output g.W.Write.contents c.write_splices.new.writer) (to_splices v) = puts_then (output g.W.Write.contents c.args.writer.now) (output g.W.Write.contents c.write_revisions.new.writer) (output g.W.Write.contents c.write_splices.new.writer) (to_revisions v) (flat_map splice_spelling v.splices) a4 c.in_ok-write_splices.ensures.bytes.ok in
    let a6 : SendsAndHolds (output g.W.Write.contents c.args.writer.now) (output g.W.Write.contents c.write_rows.new.writer) (to_rows v) = puts_then (output g.W.Write.contents c.args.writer.now) (output g.W.Write.contents c.write_splices.new.writer) (output g.W.Write.contents c.write_rows.new.writer) (to_splices v) (flat_map row_spelling v.rows) a5 c.in_ok-write_rows.ensures.bytes.ok in
    last_put (output g.W.Write.contents c.args.writer.now) (output g.W.Write.contents c.write_rows.new.writer) (output g.W.Write.contents c.write_pool.new.writer) (to_rows v) v.pool (spelling v) c.write_pool.result (from_pool v) a6 (rw c.space-space.ensures.store at c.write_pool.ensures.bytes)

pub returns-clause-fits : goal.returns-clause-fits
returns-clause-fits g c =
    all_fit c.args.session.now c.write_pool.result (rw c.space-space.ensures.store at c.in_ok-write_nodes.ensures.fits) c.in_ok-write_revisions.ensures.fits c.in_ok-write_splices.ensures.fits c.in_ok-write_rows.ensures.fits (rw c.space-space.ensures.store at c.write_pool.ensures.fits)
