use Rattle.std.proofs.Common.{◌≡◌, map, take}
use Rattle.commit_tools.specs.Found.{file_middle}
use Rattle.commit_tools.specs.Handed.{bytes_put, shifted}
use Rattle.commit_tools.proofs.batches.batch_of.Given as goal

abbrev pub invariant-loop-change : goal.invariant-loop-change
invariant-loop-change l = record {
  changes_are : l.changes.items ≡ map (shifted l.found.front) (take l.change-index l.change-items);
  bytes_are : l.bytes.items ≡ bytes_put (file_middle l.found l.file) (take l.change-index l.change-items);
}
