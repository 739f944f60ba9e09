use Rattle.std.proofs.Common.{subst}
use Rattle.edit_commands.specs.Session.{HoldsHistory}
use Rattle.edit_commands.proofs.Histories.{holds_history}
use Rattle.edit_commands.proofs.session.Session.space.Goals as goal

pub returns-clause-history : goal.returns-clause-history
returns-clause-history c =
    let nodes = c.count-nodes.ensures in
    subst HoldsHistory c.self.view_is (holds_history c.self.inside.store nodes.sound nodes.true_records c.self.inside.revisions.items c.self.invariant.0.each)
