use Rattle.edit_script.proofs.PrintedWords.{splices_more}
use Rattle.edit_script.proofs.printing.push_splices.Goals as goal

pub loop-splice-preserved : goal.loop-splice-preserved
loop-splice-preserved c = splices_more c.args.pool.now c.args.out.now.items c.loop-splice.out.items c.push_splice.new.out.items c.args.splices.now c.loop-splice.splice-index _ c.loop-splice-test.true c.loop-splice.invariant c.in_ok-push_splice.ensures
