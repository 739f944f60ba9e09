use Rattle.span_descent.specs.Trails.{IsTrailOf}
use Rattle.span_descent.proofs.trail.Trail.back_to.Given as goal

abbrev pub invariant-loop-self : goal.invariant-loop-self
invariant-loop-self g l = IsTrailOf (g.S.CountedSpace.table l.space) l.x.node l.self

abbrev pub decreases-loop-self : goal.decreases-loop-self
decreases-loop-self g l = l.self.count
