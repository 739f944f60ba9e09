use Rattle.std.proofs.Common.{◌≤◌, length, drop}
use Rattle.line_server.specs.Turns.{HasNoEnd}
use Rattle.line_server.proofs.cutting.split_whole.Given as goal

-- no line ends behind this place
abbrev pub invariant-loop-count : goal.invariant-loop-count
invariant-loop-count l = (l.count ≤ length l.text) × HasNoEnd (drop l.count l.text)

abbrev pub decreases-loop-count : goal.decreases-loop-count
decreases-loop-count l = l.count
