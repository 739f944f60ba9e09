use Rattle.std.proofs.Common.{◌++◌, List, ap, ◌∙◌, arith}
use Rattle.command_parts.specs.declared.part.Part.{Part}
use Rattle.command_parts.specs.Parts.{nonempty}
use Rattle.command_parts.proofs.Cutting.{IsGiving, passed_over, cut_next}
use Rattle.command_parts.proofs.part_iter.PartIter.next.Goals.{then-self-eq-READY+else-is_done, else-self-eq-READY}
use Rattle.command_parts.proofs.part_iter.PartIter.next.Goals as goal

pub loop-self-init : goal.loop-self-init
loop-self-init g c = record { size = c.self.invariant.0; within = c.self.invariant.1; same = c.self.view_is }

pub loop-self-preserved : goal.loop-self-preserved
loop-self-preserved g c =
    let here : IsGiving c.if-self-eq-READY.self-inside.ready c.if-self-eq-READY.self-inside.given c.if-self-eq-READY.self-inside.pieces c.args.self.now = elim c.if-self-eq-READY.branch [
      | then-self-eq-READY+else-is_done w ↦ rw w.self-inside-is (cut_next c.loop-self.self-inside.ready w.cut.new.ready c.loop-self.self-inside.given c.loop-self.self-inside.pieces w.cut.new.self c.args.self.now c.loop-self.invariant.size w.cut.ensures.size w.if-self-eq-READY.true c.loop-self.invariant.same w.cut.ensures.parts)
      | else-self-eq-READY w ↦ rw w.self-inside-is (record { size = c.loop-self.invariant.size; within = omega (arith, c.loop-self.invariant.within, w.if-self-eq-READY.false); same = c.loop-self.invariant.same })
    ] in
    let next = passed_over c.if-self-eq-READY.self-inside.ready c.if-self-eq-READY.self-inside.given _ (omega (arith, here.size, here.within)) (rw c.len.ensures at c.if-len-gt0.false) in
    record { size = here.size; within = omega (arith, here.within); same = ap (λ (ps : List Part). ps ++ nonempty c.if-self-eq-READY.self-inside.pieces) next ∙ here.same }
