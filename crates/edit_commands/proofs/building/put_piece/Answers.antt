use Rattle.std.proofs.Common.{Ok}
use Rattle.edit_commands.proofs.building.put_piece.Goals as goal

pub returns-in-Some : goal.returns-in-Some
returns-in-Some c = record {
  made = Ok c.in_ok-rope.rope;
  between = c.taken-made.new.store;
  takes = c.in_ok-rope.ensures;
  right = record { sound = c.count-count.ensures.sound; true_records = c.count-count.ensures.true_records };
  behind = rw c.in-Some.is c.cat_any.ensures;
}
