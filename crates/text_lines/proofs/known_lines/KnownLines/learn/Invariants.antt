use Rattle.std.proofs.Common.{◌≡◌, take}
use Rattle.text_lines.specs.KnownLines.{known_lines, learnt}
use Rattle.text_lines.proofs.known_lines.KnownLines.learn.Given as goal

-- what is known behind the line, of the lines before
abbrev pub invariant-loop-other : goal.invariant-loop-other
invariant-loop-other l = known_lines l.later ≡ learnt l.fn.line (take l.other-index l.other-items)
