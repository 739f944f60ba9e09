use Rattle.std.proofs.Common.{◌≡◌, ◌+◌, length}
use Rattle.cord_tools.specs.Input.{ReadsBehind}
use Rattle.cord_tools.proofs.input.read_on.Given as goal

-- what is not left lies behind the bytes that were there
abbrev pub invariant-loop-left : goal.invariant-loop-left
invariant-loop-left g l =
    ReadsBehind (g.R.Read.remaining l.initial.reader) (g.R.Read.remaining l.reader) l.initial.bytes.items l.bytes.items
    × (length l.bytes.items + l.left ≡ l.limit)

abbrev pub decreases-loop-left : goal.decreases-loop-left
decreases-loop-left g l = l.left
