use Rattle.std.proofs.Common.{◌≡◌, length}
use Rattle.script_tools.proofs.BlamedLines.{IsBlaming}
use Rattle.script_tools.proofs.blaming.write_runs.Given as goal

abbrev pub invariant-loop-origins : goal.invariant-loop-origins
invariant-loop-origins g l =
    (l.origins.image ≡ l.image)
    × IsBlaming l.image l.k l.start l.count l.place l.origins.left (g.W.Write.contents l.initial.writer) (g.W.Write.contents l.writer)

abbrev pub decreases-loop-origins : goal.decreases-loop-origins
decreases-loop-origins g l = length l.origins.left
