use Rattle.std.proofs.Common.{◌≡◌, ◌∙◌, ap, sym}
use Rattle.command_parts.specs.Places.{len_here}
use Rattle.command_parts.proofs.PartPlaces.{at_passed}
use Rattle.command_parts.proofs.place.PartPlace.skip.Goals as goal
use Rattle.command_parts.proofs.place.PartPlace.skip.Goals.{in-None, in-Some}

pub returns-then-self-end : goal.returns-then-self-end
returns-then-self-end g c =
    let end : c.match-self.end ≡ len_here c.args.self.now.part = elim c.match-self.branch [
      | in-None w ↦ w.end-is ∙ ap len_here (sym w.in-None.is)
      | in-Some w ↦ w.end-is ∙ w.len-end.ensures ∙ ap len_here (sym w.in-Some.is)
    ] in
    at_passed c.args.self.now.part c.args.self.now.off c.args.n c.match-self.end c.args.self.now.rest c.next-self.result c.next-self.new.self end c.if-self-end.true c.requires c.next-self.ensures
