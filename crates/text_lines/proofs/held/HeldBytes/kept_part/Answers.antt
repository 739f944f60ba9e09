use Rattle.std.proofs.Common.{◌≤◌, length, take, ap, ◌∙◌, arith}
use Rattle.text_lines.specs.HeldBytes.{held_starting_at}
use Rattle.text_lines.proofs.HeldLaws.{first_held}
use Rattle.text_lines.proofs.held.HeldBytes.kept_part.Goals as goal

pub returns-then-count-near-clause-bytes : goal.returns-then-count-near-clause-bytes
returns-then-count-near-clause-bytes c t held =
    let few : c.args.count ≤ length (held_starting_at c.args.self.now c.args.place) = omega (arith, c.if-count-near.true, ap length c.starting_at-near.ensures) in
    ap (take c.args.count) c.starting_at-near.ensures ∙ first_held t c.args.self.now c.args.place c.args.count held few
