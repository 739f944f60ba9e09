use Rattle.std.proofs.Common.{◌∙◌}
use Rattle.std.proofs.lemmas.List.FromFn.{length-map-range_with_len}
use Rattle.image_reader.specs.Spelling.{node_spelling}
use Rattle.session_image.specs.Gathering.{output}
use Rattle.session_image.specs.Written.{nodes_of}
use Rattle.session_image.proofs.Gathering.{put_failed, sends_slice, put_succeeded, put_all, put_part, put_more}
use Rattle.session_image.proofs.HeldNodes.{node_found, holds_fit_more}
use Rattle.session_image.proofs.writing.write_all_nodes.Goals as goal

pub returns-in_err-put-clause-bytes : goal.returns-in_err-put-clause-bytes
returns-in_err-put-clause-bytes g c =
    let h = c.args.space.now in
    let spelled = rw (c.depth-depth.ensures.value, c.len-len.ensures.value, c.node-view.ensures.view, c.function_at-function.ensures) at c.node_record-record.ensures.value in
    put_failed _ _ _ c.from_residual.result c.from_residual.ensures.0 (put_part node_spelling (nodes_of h) c.loop-id.id _ (output g.W.Write.contents c.args.writer.now) (output g.W.Write.contents c.loop-id.writer) (output g.W.Write.contents c.put.new.self) (node_found h c.loop-id.id (rw c.count-id-end.ensures.count at c.loop-id-test.true)) c.loop-id.invariant.0 (sends_slice _ _ _ _ (c.as_slice.ensures ∙ spelled) c.in_err-put.ensures.err))

pub loop-id-preserved : goal.loop-id-preserved
loop-id-preserved g c =
    let h = c.args.space.now in
    let spelled = rw (c.depth-depth.ensures.value, c.len-len.ensures.value, c.node-view.ensures.view, c.function_at-function.ensures) at c.node_record-record.ensures.value in (
      put_more node_spelling (nodes_of h) c.loop-id.id _ (output g.W.Write.contents c.args.writer.now) (output g.W.Write.contents c.loop-id.writer) (output g.W.Write.contents c.put.new.self) (node_found h c.loop-id.id (rw c.count-id-end.ensures.count at c.loop-id-test.true)) c.loop-id.invariant.0 (rw (c.as_slice.ensures, spelled) at c.in_ok-put.ensures.ok),
      holds_fit_more h c.loop-id.id c.loop-id.invariant.1 (rw (c.node-view.ensures.view, c.function_at-function.ensures) at c.node_record-record.ensures.fits),
    )

pub returns-clause-bytes : goal.returns-clause-bytes
returns-clause-bytes g c = put_succeeded _ _ _ _ (put_all node_spelling (nodes_of c.args.space.now) c.loop-id.id (output g.W.Write.contents c.args.writer.now) (output g.W.Write.contents c.loop-id.writer) (rw length-map-range_with_len (rw c.count-id-end.ensures.count at c.loop-id-test.false)) c.loop-id.invariant.0)
