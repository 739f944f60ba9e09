use Rattle.function_leaf.specs.Coded.{coded_byte}
use Rattle.node_table.specs.Held.{table_of}
use Rattle.edit_commands.specs.declared.command.Command.TheVariants.{Many}
use Rattle.edit_commands.specs.Session.{roots_of}
use Rattle.edit_commands.specs.Terms.{IsCommandInRange}
use Rattle.edit_commands.proofs.HandedChanges.{can_follow, in_order}
use Rattle.edit_commands.proofs.building.terms_of.Goals as goal

pub changed-requires-clause-order : goal.changed-requires-clause-order
changed-requires-clause-order c =
    let is : IsCommandInRange (table_of coded_byte c.args.store.now) (roots_of c.args.revisions.now) (Many c.in-Many.r c.in-Many.changes c.in-Many.bytes) = rw c.in-Many.is at c.requires.in_range in
    rw (c.len-len.ensures.exact, c.root_at-rope-in-Many.ensures) (in_order _ 0 c.in-Many.changes.now (can_follow _ c.in-Many.changes.now c.in-Many.bytes.now is.1))
