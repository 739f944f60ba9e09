use Rattle.std.proofs.Common.{arith}
use Rattle.text_lines.proofs.HeldLaws.{none_held}
use Rattle.text_lines.proofs.held.HeldBytes.hold_before.Goals.{then-straight, else-straight+else-not-takes_before}
use Rattle.text_lines.proofs.held.HeldBytes.hold_before.Goals as goal

pub read_before-requires-clause-held : goal.read_before-requires-clause-held
read_before-requires-clause-held g c =
    elim c.if-straight.branch [
      | then-straight w ↦ rw (w.self-is, w.begin_at.ensures) (none_held (g.S.NodeSpace.table c.args.space.now) (g.T.Sources.reading c.args.sources.now) c.args.rope c.args.self.now c.args.end c.rope_len.result c.rope_len.ensures.cells (omega (arith, c.rope_len.ensures.exact, c.requires.end)) c.requires.held)
      | else-straight+else-not-takes_before w ↦ rw w.self-is c.requires.held
    ]
