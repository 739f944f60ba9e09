use Rattle.session_image.specs.Gathering.{output}
use Rattle.session_image.proofs.Gathering.{put_failed}
use Rattle.session_image.proofs.PoolBytes.{part_of_block, wrote_block}
use Rattle.session_image.proofs.writing.write_pool.Goals as goal

pub returns-in_err-write_block-clause-bytes : goal.returns-in_err-write_block-clause-bytes
returns-in_err-write_block-clause-bytes g c =
    put_failed _ _ _ c.from_residual.result c.from_residual.ensures.0 (part_of_block c.args.space.now.pool.bytes c.pool-block.result.now c.loop-done.done (output g.W.Write.contents c.args.writer.now) (output g.W.Write.contents c.loop-done.writer) (output g.W.Write.contents c.write_block.new.writer) c.pool-block.ensures.bytes c.loop-done.invariant c.in_err-write_block.ensures.bytes.err)

pub loop-done-preserved : goal.loop-done-preserved
loop-done-preserved g c = wrote_block c.args.space.now.pool.bytes c.pool-block.result.now c.loop-done.done (output g.W.Write.contents c.args.writer.now) (output g.W.Write.contents c.loop-done.writer) (output g.W.Write.contents c.write_block.new.writer) c.pool-block.ensures.bytes c.write_block.ensures.fits c.loop-done.invariant c.in_ok-write_block.ensures.bytes.ok
