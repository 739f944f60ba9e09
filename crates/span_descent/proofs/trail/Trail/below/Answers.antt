use Rattle.std.proofs.Common.{◌∙◌, sym, arith}
use Rattle.span_descent.proofs.Stops.{base_behind, left_behind, right_behind}
use Rattle.span_descent.proofs.trail.Trail.below.Goals as goal

pub returns-then-left-start : goal.returns-then-left-start
returns-then-left-start g c =
    let behind = right_behind (g.S.CountedSpace.table c.args.space.now) c.requires.sound c.requires.true_records c.args.stop c.args.x c.args.self.now c.in_right.result c.requires.last c.in-Cat.l c.in-Cat.r c.left_length-left.result
    c.in_right.ensures c.left_length-left.ensures.value (sym c.requires.view ∙ c.in-Cat.is) (omega (arith, c.place_in-start.ensures)) in
    record { goes = (rw c.requires.view behind.1, rw c.in_right.ensures c.requires.long); behind = behind.0 }

pub returns-then-least-left : goal.returns-then-least-left
returns-then-least-left g c =
    let behind = left_behind (g.S.CountedSpace.table c.args.space.now) c.requires.sound c.requires.true_records c.args.stop c.args.x c.args.self.now c.in_left.result c.requires.last c.in-Cat.l c.in-Cat.r c.left_length-left.result
    c.in_left.ensures c.left_length-left.ensures.value (sym c.requires.view ∙ c.in-Cat.is) (omega (arith, c.place_in-start.ensures)) in
    record { goes = (rw c.requires.view behind.1, rw c.in_left.ensures (omega (arith, c.place_in-start.ensures, c.requires.long, c.requires.last.holds.behind))); behind = behind.0 }

pub returns-in-Sub : goal.returns-in-Sub
returns-in-Sub g c =
    let behind = base_behind (g.S.CountedSpace.table c.args.space.now) c.requires.sound c.requires.true_records c.args.stop c.args.x c.args.self.now c.in_base.result c.requires.last c.in-Sub.b c.in-Sub.i
    c.in_base.ensures (sym c.requires.view ∙ c.in-Sub.is) in
    record { goes = (rw c.requires.view behind.1, rw c.in_base.ensures c.requires.long); behind = behind.0 }
