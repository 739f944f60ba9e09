use Rattle.std.proofs.Common.{refl}
use Rattle.node_table.proofs.LeftLengths.{len_of_entry}
use Rattle.node_table.proofs.entry.kind_of.Goals as goal

pub at-requires : goal.at-requires
at-requires g c = c.requires.before.0 c.in-Cat.l (rw c.in-Cat.is refl)

pub returns-in-Cat-clause-left : goal.returns-in-Cat-clause-left
returns-in-Cat-clause-left g c = len_of_entry c.args.entries.now.items c.in-Cat.l.0 c.at.result.now (c.requires.before.0 c.in-Cat.l (rw c.in-Cat.is refl)) c.at.ensures
