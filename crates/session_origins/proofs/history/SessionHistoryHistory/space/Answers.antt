use Rattle.std.proofs.Common.{subst, ap, ◌∙◌}
use Rattle.function_leaf.specs.declared.coded.Coded.{Coded}
use Rattle.function_leaf.specs.Coded.{coded_byte}
use Rattle.node_table.specs.Held.{Held, IsKept, table_of}
use Rattle.session_origins.proofs.SessionHistories.{same_table}
use Rattle.session_origins.proofs.history.SessionHistoryHistory.space.Goals as goal

pub returns : goal.returns
returns c =
    let same = c.space-space.ensures.store in
    ap (λ (h : Held Coded). table_of coded_byte h) same ∙ same_table c.args.self.now.0.now (subst (λ (h : Held Coded). IsKept coded_byte h) same c.count-nodes.ensures.kept)
