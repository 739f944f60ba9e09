use Rattle.node_table.proofs.LeftLengths.{lefts_pushed}
use Rattle.node_table.proofs.new_nodes.put_one.Goals as goal

pub returns-clause-lefts : goal.returns-clause-lefts
returns-clause-lefts g c =
    rw c.push.ensures.items (lefts_pushed c.args.entries.now.items c.of-entry.result c.requires.lefts c.of-entry.ensures.left)
