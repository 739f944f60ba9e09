use Rattle.std.proofs.Common.{◌≡◌, false, arith}
use Rattle.edit_commands.specs.declared.command.Command.TheVariants.{Many}
use Rattle.edit_commands.specs.Refusals.{is_out_of_range}
use Rattle.edit_commands.specs.Session.{SessionValue, length_at}
use Rattle.edit_commands.proofs.HandedChanges.{are_fine}
use Rattle.edit_commands.proofs.HandedChanges.{misplaced_none}
use Rattle.edit_commands.proofs.refusing.kept_and_added.Goals as goal

pub taken_away-requires : goal.taken_away-requires
taken_away-requires c =
    let v : SessionValue = record { held = c.args.store.now; revisions = c.args.revisions.now } in
    let none : is_out_of_range v (Many c.in-Many.r c.in-Many.changes c.in-Many.bytes) ≡ false = rw c.in-Many.is at c.requires.inside in
    let fine = are_fine (length_at v c.in-Many.r) c.in-Many.changes.now (misplaced_none v c.in-Many.r c.in-Many.changes c.in-Many.bytes none) in
    omega (arith, fine.sum, c.len_at-in-Many.ensures.value, c.len_at-in-Many.ensures.short)

pub overflow_sub-result-in-Many : goal.overflow_sub-result-in-Many
overflow_sub-result-in-Many c =
    let v : SessionValue = record { held = c.args.store.now; revisions = c.args.revisions.now } in
    let none : is_out_of_range v (Many c.in-Many.r c.in-Many.changes c.in-Many.bytes) ≡ false = rw c.in-Many.is at c.requires.inside in
    let fine = are_fine (length_at v c.in-Many.r) c.in-Many.changes.now (misplaced_none v c.in-Many.r c.in-Many.changes c.in-Many.bytes none) in
    omega (arith, fine.sum, c.len_at-in-Many.ensures.value, c.taken_away.ensures)
