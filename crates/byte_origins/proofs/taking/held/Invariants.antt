use Rattle.std.proofs.Common.{◌≡◌, length}
use Rattle.command_parts.specs.Parts.{part_at}
use Rattle.byte_origins.proofs.taking.held.Given as goal

abbrev pub invariant-loop-part : goal.invariant-loop-part
invariant-loop-part g l = part_at l.rest l.off ≡ part_at l.fn.parts l.fn.place

abbrev pub decreases-loop-part : goal.decreases-loop-part
decreases-loop-part g l = length l.rest
