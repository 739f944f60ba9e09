use Rattle.std.proofs.Common.{arith}
use Rattle.command_parts.proofs.Cutting.{next_splice, cut_parts}
use Rattle.command_parts.proofs.pieces.Pieces.cut.Goals as goal

pub overflow_sub-before : goal.overflow_sub-before
overflow_sub-before g c =
    (next_splice (g.P.Splices.splices c.self.inside.splices.now) c.self.inside.len c.self.inside.from c.self.inside.next c.self.inside.left c.splice-splice.result c.self.invariant (omega arith) c.splice-splice.ensures).behind

pub overflow_add-self : goal.overflow_add-self
overflow_add-self g c =
    let next = next_splice (g.P.Splices.splices c.self.inside.splices.now) c.self.inside.len c.self.inside.from c.self.inside.next c.self.inside.left c.splice-splice.result c.self.invariant (omega arith) c.splice-splice.ensures in
    omega (arith, next.inside)

pub invariant_of-self-2 : goal.invariant_of-self-2
invariant_of-self-2 g c =
    (next_splice (g.P.Splices.splices c.self.inside.splices.now) c.self.inside.len c.self.inside.from c.self.inside.next c.self.inside.left c.splice-splice.result c.self.invariant (omega arith) c.splice-splice.ensures).later

pub returns-clause-parts : goal.returns-clause-parts
returns-clause-parts g c =
    (cut_parts c.self.inside.more c.self.inside.rope c.self.inside.len c.self.inside.from (g.P.Splices.splices c.self.inside.splices.now) c.self.inside.next c.self.inside.left c.splice-splice.result c.args.self.now
    (omega arith) c.splice-splice.ensures c.self.view_is c.requires).0

pub returns-clause-fewer : goal.returns-clause-fewer
returns-clause-fewer g c =
    (cut_parts c.self.inside.more c.self.inside.rope c.self.inside.len c.self.inside.from (g.P.Splices.splices c.self.inside.splices.now) c.self.inside.next c.self.inside.left c.splice-splice.result c.args.self.now
    (omega arith) c.splice-splice.ensures c.self.view_is c.requires).1
