use Rattle.saved_session.proofs.SplicesFrom.{one_behind}
use Rattle.saved_session.proofs.taking.splices_from.Goals as goal

pub loop-j-preserved : goal.loop-j-preserved
loop-j-preserved g c = one_behind c.args.first (g.P.Splices.splices c.args.splices.now) c.loop-j.j c.splice.result c.loop-j.named.items c.push.new.self.items c.splice.ensures c.loop-j.invariant (c.in_ok-push.ensures.items)
