use Rattle.saved_session.proofs.SplicesFrom.{one_at}
use Rattle.saved_session.proofs.taking.listed_rows.Goals as goal

pub loop-j-preserved : goal.loop-j-preserved
loop-j-preserved g c = one_at (g.R.Rows.listed c.args.rows.now) c.loop-j.j c.row.result c.loop-j.listed.items c.push.new.self.items c.row.ensures c.loop-j.invariant (c.in_ok-push.ensures.items)
