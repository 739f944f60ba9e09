use Rattle.std.proofs.Common.{Some, sym}
use Rattle.cord_position.specs.declared.path.Fork.{Fork}
use Rattle.cord_position.proofs.StepLaws.{way_past_fork, way_to_base, way_to_side}
use Rattle.cord_position.proofs.path.descend.Goals as goal

pub down-preserved-then-step-fork : goal.down-preserved-then-step-fork
down-preserved-then-step-fork g c =
    let way = c.down.invariant in
    let fork : Fork = record { step = c.down.step; l = c.in-Cat.l; r = c.in-Cat.r; left = c.left_len-left.result } in
    way_to_side (g.S.NodeSpace.table c.args.space.now) c.node.ensures.sound c.node.ensures.true_records (Some c.args.root) c.down.path c.push_reserved.new.self fork c.side_of-step.result c.args.place
    c.push_reserved.ensures.items c.push_reserved.ensures.capacity c.side_of-step.ensures.left c.side_of-step.ensures.right way.way
    (record { at = way.at; view = sym c.in-Cat.ensures.view; left = c.left_len-left.ensures.value }) way.held

pub down-preserved-else-step-fork : goal.down-preserved-else-step-fork
down-preserved-else-step-fork g c =
    let way = c.down.invariant in
    let fork : Fork = record { step = c.down.step; l = c.in-Cat.l; r = c.in-Cat.r; left = c.left_len-left.result } in
    way_past_fork (g.S.NodeSpace.table c.args.space.now) c.node.ensures.sound c.node.ensures.true_records (Some c.args.root) c.down.path fork c.side_of-step.result c.args.place
    c.side_of-step.ensures.left c.side_of-step.ensures.right way.way
    (record { at = way.at; view = sym c.in-Cat.ensures.view; left = c.left_len-left.ensures.value }) way.held

pub down-preserved : goal.down-preserved
down-preserved g c =
    way_to_base (g.S.NodeSpace.table c.args.space.now) c.node.ensures.sound c.node.ensures.true_records (Some c.args.root) c.down.path c.down.step c.args.place c.in-Sub.b c.in-Sub.i
    (sym c.in-Sub.ensures.view) c.down.invariant
