use Rattle.std.proofs.Common.{arith, ◌∙◌}
use Rattle.byte_origins.proofs.JoinedRuns.{lengthening_fits, lengthening_more, next_found}
use Rattle.byte_origins.proofs.joining.lengthen.Goals as goal

pub overflow_add-run : goal.overflow_add-run
overflow_add-run c =
    let next = next_found _ c.loop-next.runs.left c.next.new.self.left c.in_ok-next.field-0 c.in-Some.next c.in-Some.is c.in_ok-next.ensures.next in
    omega (arith, lengthening_fits c.args.run.now c.loop-next.run c.in-Some.next c.args.runs.now.left c.loop-next.runs.left c.next.new.self.left c.loop-next.invariant.0 next.1 c.requires.room)

pub loop-next-preserved : goal.loop-next-preserved
loop-next-preserved c =
    let next = next_found _ c.loop-next.runs.left c.next.new.self.left c.in_ok-next.field-0 c.in-Some.next c.in-Some.is c.in_ok-next.ensures.next in (
      lengthening_more c.args.run.now c.loop-next.run c.in-Some.next c.args.runs.now.left c.loop-next.runs.left c.next.new.self.left c.loop-next.invariant.0 next.0 next.1
          (c.goes_on.ensures.0 c.if-not-goes_on.false),
      c.next.ensures.image ∙ c.loop-next.invariant.1,
    )
