use Rattle.std.proofs.Common.{map, ap, ◌∙◌}
use Rattle.leaf_buffer.specs.Contents.{held_whole}
use Rattle.node_table.specs.Copies.{IsCopyOf}
use Rattle.node_table.specs.Entries.{record_of}
use Rattle.node_table.specs.Held.{held_of}
use Rattle.node_table.proofs.CopiedNodes.{copy_counts, copy_is_kept, copy_of_all}
use Rattle.node_table.proofs.copying.NodeTable+Coded.copied.Goals as goal

pub invariant_of-result : goal.invariant_of-result
invariant_of-result g c =
    let t = g.S.NodeSpace.table c.args.space.now in
    let coded = g.S.CodedSpace.coded c.args.space.now in
    let records = map record_of c.in_ok-entries.entries.items in
    let pool = c.in_ok-pool.pool in
    let sources = c.in_ok-sources.sources.items in
    let whole = c.in_ok-pool.ensures.pool ∙ ap held_whole c.in_ok-bytes.ensures.bytes in
    let copy : IsCopyOf t coded (held_of records pool sources) = copy_of_all t coded records pool sources c.in_ok-entries.ensures.copied whole c.in_ok-sources.ensures.lengths in (
      copy_is_kept t coded (held_of records pool sources) copy (copy_counts records pool sources) c.count-count.ensures.sound c.count-count.ensures.true_records c.requires.nodes c.requires.sources,
      c.in_ok-entries.ensures.lefts,
      c.in_ok-sources.ensures.room,
    )

pub returns-clause-kept : goal.returns-clause-kept
returns-clause-kept g c = (invariant_of-result g c).0
