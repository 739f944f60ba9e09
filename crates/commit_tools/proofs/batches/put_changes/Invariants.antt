use Rattle.std.proofs.Common.{◌≤◌, length}
use Rattle.commit_tools.specs.Put.{GoesOnTo}
use Rattle.commit_tools.proofs.PutBatches.{Leads}
use Rattle.commit_tools.proofs.batches.put_changes.Given as goal

abbrev pub invariant-loop-left : goal.invariant-loop-left
invariant-loop-left l = record {
  inside : l.left ≤ length l.found.changes.items;
  goes : GoesOnTo l.found l.file l.left (length l.found.changes.items) l.initial.session l.session;
  leads : Leads l.found l.file l.initial.session l.left l.session;
}

abbrev pub decreases-loop-left : goal.decreases-loop-left
decreases-loop-left l = l.left
