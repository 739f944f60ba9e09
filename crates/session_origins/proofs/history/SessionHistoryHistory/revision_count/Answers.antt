use Rattle.std.proofs.Common.{subst, sym, ◌∙◌}
use Rattle.std.proofs.lemmas.List.{length-map}
use Rattle.function_leaf.specs.declared.coded.Coded.{Coded}
use Rattle.function_leaf.specs.Coded.{coded_byte}
use Rattle.rope_node.specs.Table.{IsSound, HasTrueRecords}
use Rattle.node_table.specs.Held.{Held, IsKept, table_of}
use Rattle.session_image.specs.Written.{recorded_revision}
use Rattle.session_origins.proofs.SessionHistories.{few_splices, true_records_of}
use Rattle.session_origins.proofs.history.SessionHistoryHistory.revision_count.Goals as goal

pub returns-clause-count : goal.returns-clause-count
returns-clause-count c = c.count.ensures.value ∙ sym (length-map c.args.self.0.now.revisions recorded_revision)

pub returns-clause-true_records : goal.returns-clause-true_records
returns-clause-true_records c =
    let same = c.space.ensures.store in
    let nodes = c.count-nodes.ensures in
    true_records_of c.args.self.0.now (subst (λ (h : Held Coded). IsKept coded_byte h) same nodes.kept) c.count.ensures.session
    (subst (λ (h : Held Coded). IsSound (table_of coded_byte h)) same nodes.sound) (subst (λ (h : Held Coded). HasTrueRecords (table_of coded_byte h)) same nodes.true_records)

pub returns-clause-few_splices : goal.returns-clause-few_splices
returns-clause-few_splices c = few_splices c.args.self.0.now c.count.ensures.session
