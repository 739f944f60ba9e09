use Rattle.std.proofs.Common.{ℕ, ◌<◌, get_or}
use Rattle.text_lines.specs.declared.known.KnownLine.{KnownLine}
use Rattle.text_lines.specs.KnownLines.{IsAbout}
use Rattle.text_lines.proofs.known_lines.line_about.Given as goal

-- none of the lines before is one
abbrev pub invariant-loop-line : goal.invariant-loop-line
invariant-loop-line l = (k : ℕ) (line : KnownLine) → k < l.line-index → IsAbout l.place l.count (get_or l.lines k line) → ⊥
