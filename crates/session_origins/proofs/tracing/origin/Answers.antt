use Rattle.std.proofs.Common.{subst, arith}
use Rattle.function_leaf.specs.declared.coded.Coded.{Coded}
use Rattle.function_leaf.specs.Coded.{coded_byte}
use Rattle.rope_node.specs.Table.{IsSound, HasTrueRecords}
use Rattle.node_table.specs.Held.{Held, IsKept, table_of}
use Rattle.session_origins.proofs.SessionHistories.{origins_long, true_records_of}
use Rattle.session_origins.proofs.tracing.origin.Goals as goal

pub returns-clause-there : goal.returns-clause-there
returns-clause-there c =
    let v = c.args.session.now in
    let same = c.space.ensures.store in
    let nodes = c.count-nodes.ensures in
    let kept = subst (λ (h : Held Coded). IsKept coded_byte h) same nodes.kept in
    let sound = subst (λ (h : Held Coded). IsSound (table_of coded_byte h)) same nodes.sound in
    let true_records = subst (λ (h : Held Coded). HasTrueRecords (table_of coded_byte h)) same nodes.true_records in
    let session = c.count-count.ensures.session in
    let long = origins_long v kept session (true_records_of v kept session sound true_records) c.args.k in
    (λ some. omega (arith, c.origin.ensures.there.0 some, long), λ lt. c.origin.ensures.there.1 (omega (arith, lt, long)))
