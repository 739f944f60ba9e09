use Rattle.std.proofs.Common.{◌≡◌, ◌+◌, ◌-◌, ◌≤◌, drop, ap, sym, subst, ◌∙◌, arith, le-ltb, drop-drop, length-drop, take_all}
use Rattle.text_lines.specs.declared.held.TheConstants.{ROOM}
use Rattle.text_lines.specs.HeldBytes.{HeldPart, held_starting_at}
use Rattle.text_lines.proofs.held.HeldBytes.starting_at.Goals as goal

pub returns-then-reaches : goal.returns-then-reaches
returns-then-reaches c =
    let h = c.self.inside in
    let k = c.args.place - h.from in
    let there = c.reaches.ensures.0 c.if-reaches.true in
    let from : h.from ≤ c.args.place = omega (arith, there.0, ap (λ (p : HeldPart). p.from) c.self.view_is) in
    take_all (ROOM - (h.start + k)) (drop (h.start + k) h.bytes) (omega (arith, length-drop (h.start + k) h.bytes, c.self.ranges.1))
    ∙ subst (λ (p : HeldPart). drop (h.start + k) h.bytes ≡ held_starting_at p c.args.place) c.self.view_is (rw (le-ltb c.args.place h.from from) (sym (drop-drop k h.start h.bytes)))
