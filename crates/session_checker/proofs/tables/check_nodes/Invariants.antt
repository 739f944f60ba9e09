use Rattle.std.proofs.Common.{ℕ, ◌≡◌, ◌+◌, ◌<◌}
use Rattle.image_reader.specs.Value.{image_table}
use Rattle.image_reader.specs.Accepted.{IsAcceptedNode}
use Rattle.session_checker.proofs.tables.check_nodes.Given as goal

abbrev pub invariant-loop-id : goal.invariant-loop-id
invariant-loop-id g l =
    ((c : ℕ) → c < l.id → IsAcceptedNode (image_table l.fn.records.image.now) c)
    × (l.records.image.now ≡ l.fn.records.image.now)
    × (l.records.count.now ≡ l.fn.records.count.now + l.id)
    × (l.records.count.ghost_name ≡ l.fn.records.count.ghost_name)
