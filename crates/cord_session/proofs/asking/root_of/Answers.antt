use Rattle.cord_session.proofs.Resuming.{root_is_rope}
use Rattle.cord_session.proofs.asking.root_of.Goals as goal

pub returns-clause-rope : goal.returns-clause-rope
returns-clause-rope c = root_is_rope c.args.session.now c.args.revision c.root.result c.count-count.ensures.session.each c.root.ensures
