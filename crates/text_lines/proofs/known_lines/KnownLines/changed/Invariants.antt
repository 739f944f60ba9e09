use Rattle.text_lines.specs.KnownLines.{known_lines}
use Rattle.text_lines.proofs.LearntLines.{CameOut}
use Rattle.text_lines.proofs.known_lines.KnownLines.changed.Given as goal

-- the lines that the change made of those before
abbrev pub invariant-loop-line : goal.invariant-loop-line
invariant-loop-line g l = CameOut (goal.F-post g l.change) l.line-items l.line-index (known_lines l.later)
