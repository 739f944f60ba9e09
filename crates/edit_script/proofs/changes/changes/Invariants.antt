use Rattle.std.proofs.Common.{◌≡◌, length}
use Rattle.std.specs.List.{sum_by}
use Rattle.edit_commands.specs.declared.command.Change.{Change}
use Rattle.edit_script.specs.Commands.{splice_words, splice_kinds}
use Rattle.edit_script.specs.Handed.{placed_splices}
use Rattle.edit_script.specs.Reading.{groups_at}
use Rattle.edit_script.proofs.ChangeWords.{with_words}
use Rattle.edit_script.proofs.changes.changes.Given as goal

abbrev pub invariant-loop-rest : goal.invariant-loop-rest
invariant-loop-rest l = record {
  takes : sum_by (λ (c : Change). c.n) l.room.changes.items ≡ length l.room.bytes.items;
  words : with_words (splice_words l.room.bytes.items (placed_splices l.room.changes.items)) (groups_at (length l.rest) splice_kinds l.rest) ≡ groups_at (length l.line) splice_kinds l.line;
}

abbrev pub decreases-loop-rest : goal.decreases-loop-rest
decreases-loop-rest l = length l.rest
