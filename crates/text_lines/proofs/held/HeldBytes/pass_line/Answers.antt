use Rattle.std.proofs.Common.{◌≡◌, ◌-◌, Some, drop, sym, ap, subst, ◌∙◌, inl, inr, arith}
use Rattle.std.proofs.lemmas.Bool.{cases_lt}
use Rattle.cord_search.specs.declared.runs.TheConstants.{PIECE}
use Rattle.text_lines.specs.HeldBytes.{AreHeld, HeldPart}
use Rattle.text_lines.proofs.HeldLaws.{line_passed}
use Rattle.text_lines.proofs.held.HeldBytes.pass_line.Goals as goal

pub returns-clause-held : goal.returns-clause-held
returns-clause-held c t held inside ends long =
    let h = c.self.inside in
    let view : HeldPart = record { from = h.from; bytes = drop h.start h.bytes; begun = h.begun; known = h.known } in
    let before : AreHeld view t = subst (λ (p : HeldPart). AreHeld p t) (sym c.self.view_is) held in
    let same : c.in-Some.begun ≡ c.args.start = omega (arith, c.if-begun-start.false) in
    line_passed t view c.args.start c.args.end c.args.len c.next_line-next.result c.learn.new.self before (c.in-Some.is ∙ ap Some same) inside ends long
    (elim (cases_lt PIECE (c.args.end - c.args.start)) [ inl long ↦ inl (c.learn.ensures.long long) | inr short ↦ inr (c.learn.ensures.short short) ])
    c.next_line-next.ensures
