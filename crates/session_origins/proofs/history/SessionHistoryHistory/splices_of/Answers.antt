use Rattle.std.proofs.Common.{arith, length, ap, ◌∙◌}
use Rattle.session_origins.proofs.SessionHistories.{own_counted, own_few}
use Rattle.session_origins.proofs.history.SessionHistoryHistory.splices_of.Goals as goal

pub overflow_cast-result : goal.overflow_cast-result
overflow_cast-result c =
    let fits = own_few c.args.self.0.now c.count-count.ensures.session c.args.k c.requires in
    omega (arith, ap length c.own_splices.ensures, fits)

pub returns : goal.returns
returns c = ap length c.own_splices.ensures ∙ own_counted c.args.self.0.now c.count-count.ensures.session c.args.k c.requires
