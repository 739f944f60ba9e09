use Rattle.std.proofs.Common.{ap, ◌∙◌, arith}
use Rattle.text_lines.specs.KnownLines.{known_lines}
use Rattle.text_lines.proofs.LearntLines.{all_made, one_lost, one_out}
use Rattle.text_lines.proofs.known_lines.KnownLines.changed.Goals.{in-Some, in_default}
use Rattle.text_lines.proofs.known_lines.KnownLines.changed.Goals as goal

pub loop-line-preserved : goal.loop-line-preserved
loop-line-preserved g c =
    elim c.match-change.branch [
      | in-Some w ↦ one_out w.in-Some.line (ap known_lines w.later-is ∙ w.push.ensures) c.loop-line-test.true w.in-Some.ensures c.loop-line.invariant
      | in_default w ↦ one_lost (ap known_lines w.later-is) c.loop-line-test.true w.in_default.ensures c.loop-line.invariant
    ]

pub returns : goal.returns
returns g c = all_made c.lines-line-items.result.now (known_lines c.args.self.now) c.loop-line.line-index (known_lines c.loop-line.later) c.lines-line-items.ensures.lines (omega (arith, c.loop-line-test.false)) c.loop-line.invariant
